-- What the primal gradient and the primal barrier over a record answer and leave for kind 3: of the record, the cone and the numbers of this
-- kind. Definitions only; that they are the entries' own for this kind is proved in `in_place`.
use Rattle.std.specs.Prelude.{◌+◌, false, not, ◌||◌, ◌&&◌, List, Float, length, take}
use Rattle.cone.specs.declared.Scaling.{Scaling}
use Rattle.cone.specs.declared.Number.{Number}
use Rattle.cone.specs.declared.Rounds.{Rounds}
use Rattle.judges.specs.Judges.{all_finite, wide_finite}
use Rattle.judges.specs.Refusals.{other_length}
use Rattle.cone.specs.table.Table.{settle}
use Rattle.judges.specs.Refusals.{Lent, refuse_number, refuse_rounds, publish_of, number_of, with_rounds}
use Rattle.kinds.specs.Wide as wide
use Rattle.call_record.specs.Rows.{record_rows}
use Rattle.call_record.specs.wide_rows.Rows.{bad_wide}

-- ---- the primal side: of the record, the cone alone (02, Order 4)

-- 002 gradient_primal
unfoldable pub gradient_primal_of : Scaling → List Float → List Float → Lent Rounds
gradient_primal_of r g s =
    let c = r.cone in
    let a = wide.gradient_primal_of c.exps c.dim1 s in
    let lengths = other_length (c.dim1 + c.dim2) g || other_length (c.dim1 + c.dim2) s in
    settle (record_rows (bad_wide c) lengths (not (all_finite s && wide_finite r.wide c.dim1 c.dim2)) false false)
    (with_rounds a.rounds (publish_of g (take (length g) a.g)))
    (refuse_rounds g)

-- 002 barrier_primal
unfoldable pub barrier_primal_of : Scaling → List Float → Number
barrier_primal_of r s =
    let c = r.cone in
    let number = not (all_finite s && wide_finite r.wide c.dim1 c.dim2) in
    settle (record_rows (bad_wide c) (other_length (c.dim1 + c.dim2) s) number false false)
    (number_of (wide.barrier_primal_of c.exps c.dim1 s))
    refuse_number
