-- `settings` meets its contract: start before the flag, and behind it the settings of a flag of 0. Assumes nothing.
use Rattle.trace.proofs.value.Assembled.{settings_own, settings_default}
use Rattle.octets.specs.words.Words.{word_at}
use lib.Ieee.{Float, binary64, of_bits}
use Prim.Native.Nat.{ℕ, ◌+◌, ◌-◌}
use mathlib.Core.Path.{◌≡◌, ◌∙◌, ap}
use mathlib.Core.List.{List}
use Rattle.trace.proofs.value.Found.settings.Goals as goal

-- the double at a place that goes by the flag's
placed : (t : List ℕ) (to : ℕ → ℕ) (x : Float) {p q : ℕ} → p ≡ q → x ≡ of_bits binary64 (word_at 8 t (to p))
    → x ≡ of_bits binary64 (word_at 8 t (to q))
placed t to x e h = h ∙ ap (λ (n : ℕ). of_bits binary64 (word_at 8 t (to n))) e

pub returns-then-self-eq0 : goal.returns-then-self-eq0
returns-then-self-eq0 c =
    let f = c.args.self in
    let t = f.bytes.now in
    let is = c.flag_place-place.ensures.0 in
    settings_own f.edition t f.shape f.read _ _ _ c.if-self-eq0.true (placed t (λ (n : ℕ). n - 8) _ is c.f64_at-start.ensures)
    (placed t (λ (n : ℕ). n + 4) _ is c.f64_at.ensures) (placed t (λ (n : ℕ). n + 12) _ is c.f64_at-then-self-eq0.ensures)

pub returns : goal.returns
returns c =
    let f = c.args.self in
    let t = f.bytes.now in
    c.default_settings.ensures
    ∙ settings_default f.edition t f.shape f.read _ c.if-self-eq0.false
    (placed t (λ (n : ℕ). n - 8) _ c.flag_place-place.ensures.0 c.f64_at-start.ensures)
