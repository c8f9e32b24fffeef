-- `trailer_at` meets its contract: each number is read once. Assumes nothing.
use Rattle.trace.specs.judge.Opening.{trailer_at}
use Rattle.trace.proofs.judge.trailer_at.Goals as goal

pub returns : goal.returns
unfolding trailer_at
returns c =
    rw (
      c.u32_at-mark.ensures,
      c.less-4.ensures,
      c.u32_at-edition.ensures,
      c.less-3.ensures,
      c.u32_at-count.ensures,
      c.less-2.ensures,
      c.u64_at-list.ensures,
      c.less.ensures,
    )
