-- `laid_with` meets its contract: one test that keeps the two places from wrapping, and the row of tests. Assumes nothing.
use borrow.Author.Tests.{lt-leb, le-leb}
use Rattle.trace_layout.specs.pieces.Shapes.{laid_with}
use Rattle.trace_layout.proofs.pieces.layout.laid_with.Goals as goal

pub returns-then-size-lt-DUAL_STEP_BACK : goal.returns-then-size-lt-DUAL_STEP_BACK
unfolding laid_with
returns-then-size-lt-DUAL_STEP_BACK c = simp (lt-leb _ _ c.if-size-lt-DUAL_STEP_BACK.true)

pub returns : goal.returns
unfolding laid_with
returns c =
    rw (
      c.step_ok-2.ensures,
      c.u64_at-2.ensures,
      c.step_ok.ensures,
      c.u64_at.ensures,
      c.shape_ok-shaped.ensures,
      c.u32_at-2.ensures,
      c.u32_at.ensures,
      le-leb 24 _ c.if-size-lt-DUAL_STEP_BACK.false,
    )
