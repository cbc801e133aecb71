pub mod StdoutLaws
