-- A search that was recorded as it was made replays the same. Assumes nothing.
use mathlib.Core.Path.{◌≡◌, sym, ap, ◌∙◌}
use mathlib.Core.Bool.{true, false, cond}
use mathlib.Core.List.{List, [], ◌∷◌, ◌++◌}
use Prim.Native.Nat.{ℕ, ◌+◌, ◌≤◌}
use native.Mathlib.Omega.{arith}
use lib.Dec.{eqb}
use lib.Ieee.{Float}
use lib.ListN.{take}
use Rattle.cone.specs.declared.Cone.{Cone}
use Rattle.cone.specs.declared.Settings.{Settings}
use Rattle.cone.specs.declared.Steps.{Steps}
use Rattle.cone.specs.Codes.{numel_of}
use Rattle.judges.proofs.Lengths.{numel_at_most}
use Rattle.call_search.specs.single.Entries.{step_length_of}
use Rattle.trace_layout.specs.Records.{Record, size_in}
use Rattle.trace.specs.places.Given.{given_of}
use Rattle.trace.specs.entries.Values.{Passed}
use Rattle.trace.specs.value.Defaults.{default_of}
use Rattle.cone.specs.Points.{padded}
use Rattle.cone.proofs.Points.{padded_front}
use Rattle.trace.specs.value.Recorded.{values_of, cone_of, settings_of, steps_of, recorded_of}
use Rattle.trace.specs.kept.Kept.{kept_of, kept_steps}
use Rattle.trace.proofs.kept.Appended.{append_done}
use Rattle.trace.proofs.kept.Kept.{values_kept}
use Rattle.promises.specs.rules.Entries.{step_length, call, code_of}
use Rattle.promises.proofs.rules.Answers.{answers}
use Rattle.trace_replay.specs.rerun.Rerun.{same_answers, blank_point, rerun_of, agrees_of}
use Rattle.trace_replay.specs.call.Replay.{same_record, noted, differing}
use Rattle.promises.specs.replay_kept.Replays.{Searched, ReplaysSame, NoRuleDiffers}
use Rattle.promises.proofs.replay_kept.Cones.{kept_cone, Alike, kept_alike}
use Rattle.promises.proofs.replay_kept.Exactly.{same_gives, gives_same}
use Rattle.promises.proofs.replay_kept.Again.{Taken, taken, other_cone, same_kept, blank_length}

same_vectors : (k : Cone) (point : List Float) (how : Settings) (x : Steps) (dz' ds' z' s' dz ds z s : List Float)
    → dz' ≡ dz → ds' ≡ ds → z' ≡ z → s' ≡ s
    → (step_length_of k dz ds z s point point how).answer ≡ x
    → (step_length_of k dz' ds' z' s' point point how).answer ≡ x
same_vectors k point how x dz' ds' z' s' dz ds z s a b d f h = rw (a, b, d, f) h

module _ (e : ℕ) (c : Cone) (flag : ℕ) (settings : Settings) (dz ds z s : List Float) (steps : Steps)
    (passed : Passed c flag settings dz ds z s steps) (made : Searched e c flag settings dz ds z s steps) where
  abbrev how : Settings
  how = cond (eqb flag 0) settings (default_of e settings.start)

  abbrev k : Cone
  k = kept_cone c

  abbrev was : Taken c dz ds z s made.dual_point made.primal_point
  was = taken c dz ds z s made.dual_point made.primal_point how (ap (λ (x : Steps). x.code) made.answer ∙ made.done)

  abbrev alike : Alike k c
  alike = kept_alike c passed.places was.cone

  few : numel_of k ≤ 64
  few = omega (arith, alike.numel, numel_at_most c was.cone)

  again : rerun_of (kept_of e 0 c flag settings dz ds z s steps) ≡ steps
  unfolding rerun_of kept_of
  again =
      let n = alike.numel in
      let point = take (numel_of k) blank_point in
      let places = blank_length (numel_of k) few in
      same_vectors k point how steps _ _ _ _ dz ds z s
      (padded_front 64 dz (numel_of k) (was.dz_length ∙ sym n))
      (padded_front 64 ds (numel_of k) (was.ds_length ∙ sym n))
      (padded_front 64 z (numel_of k) (was.z_length ∙ sym n))
      (padded_front 64 s (numel_of k) (was.s_length ∙ sym n))
      (other_cone c dz ds z s made.dual_point made.primal_point how k alike point point (places ∙ n ∙ sym was.p_length)
      (places ∙ n ∙ sym was.q-length) ∙ made.answer)

  pub searched_same : same_record e (given_of c flag settings dz ds z s steps) ≡ true
  unfolding same_record agrees_of kept_of
  searched_same =
      ap agrees_of (values_kept c flag settings dz ds z s steps passed e 0)
      ∙ ap (λ (x : Steps). same_answers x (kept_steps steps)) again ∙ same_kept steps made.done

-- ---- one record more

one_more : (e at : ℕ) (rs : List Record) (r : Record) → same_record e r ≡ true → differing e at (rs ++ (r ∷ [])) ≡ differing e at rs
unfolding differing noted
one_more e at [] r h = rw h
one_more e at (x ∷ rs) r h = ap (λ (l : List ℕ). noted (same_record e x) at ++ l) (one_more e (at + size_in e x) rs r h)

pub replays_same : ReplaysSame
replays_same = record {
  only = same_gives;
  all = gives_same;
  one = λ e c flag settings dz ds z s steps passed made. searched_same e c flag settings dz ds z s steps passed made;
  appended = λ bs used c flag settings dz ds z s steps bytes passed made done.
      ap (differing _ 0) (append_done c flag settings dz ds z s steps passed bs used bytes done).records
      ∙ one_more _ 0 _ _ (searched_same _ c flag settings dz ds z s steps passed made);
}

-- ---- a rule that is none

refused_differs : (a x : Steps) → a.code ≡ 1 → same_answers a x ≡ false
unfolding same_answers
refused_differs a x h = rw h

pub no_rule_differs : NoRuleDiffers
unfolding same_record agrees_of rerun_of recorded_of cone_of call code_of
no_rule_differs e r h =
    let n = numel_of (cone_of r) in
    let vector : List ℕ → List Float = λ ws. take n (padded 64 (values_of ws)) in
    let point = take n blank_point in
    let search = step_length (vector r.dz) (vector r.ds) (vector r.z) (vector r.s) point point (settings_of e r) in
    refused_differs _ (steps_of r) (answers.another search (cone_of r) h)
