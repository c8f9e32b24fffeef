-- `positive` meets its contract: below 1 the turns outweigh the mantissa's part, so the difference is a whole number; each branch is the
-- specification's. Assumes nothing.
use Rattle.std.proofs.Common.{ℕ, ◌+◌, ◌-◌, ◌*◌, ◌≤◌, sym, ap, ◌∙◌, subst, le_of_lt, arith}
use lib.Ieee.{neg}
use Rattle.logarithm.specs.Steps.{ln2, scaled_of}
use Rattle.logarithm.proofs.Sums.{one_turn_outweighs, turns_outweigh}
use Rattle.logarithm.proofs.Doubles.{down_branch, up_branch}
use Rattle.logarithm.proofs.positive.Goals as goal

pub overflow_sub-n-then-n-lt1074 : goal.overflow_sub-n-then-n-lt1074
overflow_sub-n-then-n-lt1074 c =
    subst (λ (x : ℕ). x ≤ (1074 - c.args.n.k) * ln2) (sym c.mantissa-q.ensures)
    (le_of_lt (turns_outweigh (1074 - c.args.n.k) c.args.n.m (omega arith) c.requires.0
    c.requires.1))

pub overflow_add-n : goal.overflow_add-n
overflow_add-n c =
    omega (
      arith,
      c.mantissa-q.ensures,
      one_turn_outweighs c.args.n.m c.requires.0 c.requires.1,
    )

pub returns-then-n-lt1074 : goal.returns-then-n-lt1074
returns-then-n-lt1074 c =
    ap neg
    (c.scaled.ensures
    ∙ ap (λ (x : ℕ). scaled_of ((1074 - c.args.n.k) * ln2 - x)) c.mantissa-q.ensures)
    ∙ down_branch c.args.n.m c.args.n.k (omega arith)

pub returns-else-n-lt1074 : goal.returns-else-n-lt1074
returns-else-n-lt1074 c =
    c.scaled-else-n-lt1074.ensures
    ∙ ap (λ (x : ℕ). scaled_of ((c.args.n.k - 1074) * ln2 + x)) c.mantissa-q.ensures
    ∙ up_branch c.args.n.m c.args.n.k (omega arith)
