-- The order file: document 01, "Order file and report". Little-endian.
use Rattle.numbers.specs.Number.{number_by}
use Rattle.order.specs.declared.OrderFault.TheVariants.{BadOrder}
use Rattle.order.specs.declared.OrderFault.{OrderFault}
use Rattle.std.specs.Prelude.{◌≡◌, ℕ, ◌+◌, ◌*◌, ◌≤◌, ◌<◌, ◌%◌, ◌/◌, min, List, Bool, false, cond, ◌&&◌, ◌||◌, length, get_or, eqb, leb, ltb, Option, Some, None, Result, Ok, Err}
use Rattle.words.specs.Little.{half, quarter, eight}
use Rattle.cells.specs.declared.Region.{Region}
use Rattle.order.specs.declared.Order.{Order}

-- ── The fields ──
abbrev pub flags : List ℕ → ℕ
flags s = get_or s 5 0

-- "flags (1 arm, 2 low, 4 high ..)"
abbrev pub arm_flag : List ℕ → Bool
arm_flag s = eqb (flags s % 2) 1

abbrev pub low_flag : List ℕ → Bool
low_flag s = eqb (flags s / 2 % 2) 1

abbrev pub high_flag : List ℕ → Bool
high_flag s = eqb (flags s / 4 % 2) 1

-- "bytes 6-7 list count"; "104 tree length, 32 bits (0: no tree)"
abbrev pub list_count : List ℕ → ℕ
list_count s = half s 6

abbrev pub tree_length : List ℕ → ℕ
tree_length s = quarter s 104

-- ── The layout ──
pub record GoodOrder (s : List ℕ) : Type 0 where
  -- "longer than 65,536" is broken too
  pub most : length s ≤ 65536
  pub least : 112 ≤ length s
  -- `GBO`
  pub g : get_or s 0 0 ≡ 71
  pub b : get_or s 1 0 ≡ 66
  pub o : get_or s 2 0 ≡ 79
  -- "16-bit version 1"
  pub version : half s 3 ≡ 1
  -- "others 0"
  pub flagged : flags s < 8
  -- "8 low; 16 high (each 0 if not flagged)"
  pub low : low_flag s ≡ false → eight s 8 ≡ 0
  pub high : high_flag s ≡ false → eight s 16 ≡ 0
  -- "108 four zeros"
  pub zeros : quarter s 108 ≡ 0
  -- "112 list, tree, end"
  pub whole : length s ≡ 112 + list_count s * 24 + tree_length s

-- the test
unfoldable pub good_order : List ℕ → Bool
good_order s =
    leb (length s) 65536
    && (leb 112 (length s)
    && (eqb (get_or s 0 0) 71
    && (eqb (get_or s 1 0) 66
    && (eqb (get_or s 2 0) 79
    && (eqb (half s 3) 1
    && (ltb (flags s) 8
    && ((low_flag s || eqb (eight s 8) 0)
    && ((high_flag s || eqb (eight s 16) 0)
    && (eqb (quarter s 108) 0
    && eqb (length s) (112 + list_count s * 24 + tree_length s))))))))))

-- ── What it says ──
abbrev pub limit_by : Bool → ℕ → Option ℕ
limit_by flagged x = cond flagged (Some x) None

-- "24 five pairs base, size: kernel, env, hwdesc, bootstrap, stack"
abbrev pub pair_at : List ℕ → ℕ → Region
pair_at s i = record { address = eight s (24 + i * 16); size = eight s (32 + i * 16) }

unfoldable pub order_in : List ℕ → Order
order_in s =
    record {
      arm = arm_flag s;
      low = limit_by (low_flag s) (eight s 8);
      high = limit_by (high_flag s) (eight s 16);
      kernel = pair_at s 0;
      env = pair_at s 1;
      hwdesc = pair_at s 2;
      bootstrap = pair_at s 3;
      stack = pair_at s 4;
      list = record { at = 112; len = list_count s * 24 };
      tree = record { at = 112 + list_count s * 24; len = tree_length s };
    }

-- "Numbers a caller gets back"
abbrev pub order_fault_number : OrderFault → ℕ
order_fault_number BadOrder = 9

abbrev pub order_number : Result Order OrderFault → ℕ
order_number = number_by order_fault_number

-- 9: "order file breaks its layout, or is longer than 65,536"
unfoldable pub order_of : List ℕ → Result Order OrderFault
order_of s = cond (good_order s) (Ok (order_in s)) (Err BadOrder)

-- ── What follows a file ──
-- how many bytes at the start of s are the order file, whatever follows it: its length is what its header says; all of them where s is
-- shorter than a header, or than that length
unfoldable pub file_end : List ℕ → ℕ
file_end s = cond (leb 112 (length s)) (min (length s) (112 + list_count s * 24 + tree_length s)) (length s)
