-- `publish_wide` publishes the front of what is lent. Assumes nothing.
use mathlib.Core.Path.{◌∙◌, ap}
use Rattle.judges.specs.Refusals.{publish_of}
use Rattle.judges.proofs.Lengths.{cut}
use borrow.Author.Rules.{rules}
use Rattle.call_record.proofs.wide_rows.publish_wide.Goals as goal

pub publish-requires : goal.publish-requires
publish-requires c = cut _ 64 _ c.requires (search rules) c.head.ensures

pub returns : goal.returns
returns c =
    c.publish.ensures ∙ ap (publish_of c.args.out.now) c.head.ensures
