-- `agrees` meets its contract: the search gets the numbers of the record, cut to the cone's length, and points of that length. Assumes
-- nothing.
use mathlib.Core.Path.{◌≡◌, sym, ap, ◌∙◌}
use mathlib.Core.List.{List}
use Prim.Native.Nat.{ℕ, ◌≤◌}
use native.Mathlib.Omega.{arith}
use lib.Ieee.{Float}
use lib.ListN.{length, take}
use lib.Seq.{length-take-le}
use Rattle.cone.specs.declared.Steps.{Steps}
use Rattle.cone.specs.Codes.{numel_of}
use Rattle.judges.specs.Refusals.{LentTwo}
use Rattle.call_search.specs.single.Entries.{step_length_of}
use Rattle.trace.specs.declared.value.Recorded.{Recorded}
use Rattle.trace_replay.specs.rerun.Rerun.{same_answers, blank_point, rerun_of, agrees_of}
use Rattle.trace_replay.proofs.rerun.agrees.Goals as goal

-- ---- over plain numbers and lists

-- a point of n numbers
point-length : (n : ℕ) (p : List Float) → n ≤ 64 → p ≡ blank_point → n ≡ length (take n p)
unfolding blank_point
point-length n p few h = sym (length-take-le n p (omega (arith, ap length h)))

-- the search of what was cut is the record's
same_search : (r : Recorded) (n : ℕ) (a b d e p q : List Float) → n ≡ numel_of r.cone → a ≡ take n r.dz → b ≡ take n r.ds
    → d ≡ take n r.z → e ≡ take n r.s → p ≡ blank_point → q ≡ blank_point
    → (step_length_of r.cone a b d e (take n p) (take n q) r.settings).answer ≡ rerun_of r
unfolding rerun_of
same_search r n a b d e p q hn ha hb hd he hp hq = rw (ha, hb, hd, he, hp, hq, hn)

pub slice_bounds-step_length-end : goal.slice_bounds-step_length-end
slice_bounds-step_length-end c =
    let few : c.numel-n.result ≤ 64 = omega (arith, c.numel-n.ensures, c.requires) in
    point-length _ _ few c.blank-dual.ensures

pub slice_bounds-step_length-end-2 : goal.slice_bounds-step_length-end-2
slice_bounds-step_length-end-2 c =
    let few : c.numel-n.result ≤ 64 = omega (arith, c.numel-n.ensures, c.requires) in
    point-length _ _ few c.blank-primal.ensures

pub returns : goal.returns
unfolding agrees_of
returns c =
    let r = c.args.r in
    let again =
    same_search r _ _ _ _ _ _ _ c.numel-n.ensures c.head.ensures c.head-2.ensures c.head-3.ensures c.head-4.ensures
    c.blank-dual.ensures c.blank-primal.ensures in
    c.same_answers.ensures
    ∙ ap (λ (x : Steps). same_answers x r.steps) (ap (λ (o : LentTwo Steps). o.answer) c.step_length-steps.ensures ∙ again)
