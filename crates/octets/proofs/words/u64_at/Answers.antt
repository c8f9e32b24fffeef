-- `u64_at` meets its contract: the bytes behind the place, and of these the number in front, read at once or one by one. Assumes nothing.
use mathlib.Core.Path.{◌∙◌, ap}
use mathlib.Core.List.{List}
use Prim.Native.Nat.{ℕ}
use lib.ListN.{take}
use Rattle.octets.specs.words.Words.{spelled, word_at}
use Rattle.octets.proofs.words.Loops.{std_eight}
use Rattle.octets.proofs.words.u64_at.Goals as goal

pub returns-in-Some : goal.returns-in-Some
unfolding word_at
returns-in-Some c =
    c.from_le_bytes.ensures ∙ std_eight _ _ c.in-Some.ensures.cases.same ∙ ap (λ (l : List ℕ). spelled (take 8 l)) c.behind-rest.ensures

pub returns-in-None : goal.returns-in-None
unfolding word_at
returns-in-None c = c.word_of.ensures.0 ∙ ap (λ (l : List ℕ). spelled (take 8 l)) c.behind-rest.ensures
