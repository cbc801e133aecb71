-- The walk over the structure block, a token at a time, in which the first faulty token decides: document 01, "The tree" and
-- "Numbers a caller gets back". The crate grammar ties it to the grammar of the Specification.
use Rattle.std.specs.Prelude.{ℕ, zero, suc, ◌+◌, ◌-◌, List, Bool, true, false, cond, length, leb, eqb, Result, Ok, Err}
use Rattle.fdt.specs.Token.{tok_at}
use Rattle.fdt.specs.declared.Token.{Token}
use Rattle.fdt.specs.declared.Token.TheVariants.{Bad, Nop, Begin, EndNode, Prop, Fin}
use Rattle.fdt.specs.declared.State.{State}
use Rattle.fdt.specs.declared.Step.{Step}
use Rattle.fdt.specs.declared.Step.TheVariants.{Go, Stop}
use Rattle.fdt.specs.declared.TreeFault.{TreeFault}
use Rattle.fdt.specs.declared.TreeFault.TheVariants.{OverLimit, BadStructure}

-- where the walk stands: the next token, the nodes that are open, the nodes begun, and whether a property may stand here
abbrev pub state : ℕ → ℕ → ℕ → Bool → State
state at depth nodes props = record { at = at; depth = depth; nodes = nodes; props = props }

-- a node begins. Outside every node: "one root with the empty name". Inside: "32 levels (root is 1), 4,096 nodes"
unfoldable pub begin_step : State → ℕ → ℕ → Step
begin_step st len next =
    cond (eqb st.depth 0)
    (cond (eqb st.nodes 0) (cond (eqb len 0) (Go (state next 1 1 true)) (Stop (Err BadStructure))) (Stop (Err BadStructure)))
    (cond (leb 32 st.depth) (Stop (Err OverLimit))
    (cond (leb 4096 st.nodes) (Stop (Err OverLimit))
    (Go (state next (st.depth + 1) (st.nodes + 1) true))))

-- "NOP anywhere between tokens"; "properties before children"; "9 after the root and last in the block"
unfoldable pub step_of : State → Token → Step
step_of st Bad = Stop (Err BadStructure)
step_of st (Nop next) = Go (state next st.depth st.nodes st.props)
step_of st (Begin len next) = begin_step st len next
step_of st (EndNode next) = cond (eqb st.depth 0) (Stop (Err BadStructure)) (Go (state next (st.depth - 1) st.nodes false))
step_of st (Prop len a z next) = cond st.props (Go (state next st.depth st.nodes true)) (Stop (Err BadStructure))
step_of st Fin = cond (eqb st.depth 0) (cond (eqb st.nodes 0) (Stop (Err BadStructure)) (Stop (Ok tt))) (Stop (Err BadStructure))

abbrev pub after : Step → (State → Result Unit TreeFault) → Result Unit TreeFault
after (Go st) k = k st
after (Stop v) k = v

-- at most f tokens from the state on
unfoldable pub walk_at : ℕ → List ℕ → List ℕ → State → Result Unit TreeFault
walk_at zero b n st = Err BadStructure
walk_at (suc f) b n st = after (step_of st (tok_at b n st.at)) (λ next. walk_at f b n next)

-- the whole walk: each token takes four bytes at least, so there are fewer tokens than this
unfoldable pub walked : List ℕ → List ℕ → Result Unit TreeFault
walked b n = walk_at (suc (length b)) b n (state 0 0 0 false)
