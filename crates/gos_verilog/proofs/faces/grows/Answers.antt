use Rattle.std.proofs.Common.{◌≡◌, ◌++◌, ◌∷◌, [], ℕ, inl, inr, refl, sym, ◌∙◌, ap, subst, arith}
use Rattle.std.proofs.lemmas.Bool.{cases_lt}
use Rattle.gos_verilog.specs.inner.Faces.{IsFree}
use Rattle.gos_verilog.proofs.FreeLemmas.{contrary, no_growth}
use Rattle.gos_verilog.proofs.faces.grows.Goals as goal

pub returns-then-is_free : goal.returns-then-is_free
returns-then-is_free c = (
  (λ _. (c.loop-b.b, subst (IsFree c.args.places.now) (c.deref.ensures.value ∙ c.in_ok-longer.ensures) (c.is_free.ensures.0 c.if-is_free.true))),
  (λ _. refl),
)

pub loop-b-preserved : goal.loop-b-preserved
loop-b-preserved c = λ d inside free.
    let longer : c.deref.result.now ≡ c.args.bytes.now ++ c.loop-b.b ∷ [] = c.deref.ensures.value ∙ c.in_ok-longer.ensures in
    elim (cases_lt d c.loop-b.b) [
      | inl before ↦ c.loop-b.invariant d before free
      | inr over ↦
          let e : d ≡ c.loop-b.b = omega (arith, inside, over) in
          contrary (c.is_free.ensures.1 (subst (IsFree c.args.places.now) (ap (λ (b : ℕ). c.args.bytes.now ++ b ∷ []) e ∙ sym longer) free)) c.if-is_free.false
    ]

pub returns : goal.returns
returns c = (
  (λ yes. absurd (contrary yes refl)),
  (λ grows. absurd (no_growth c.args.places.now c.args.bytes.now (λ d inside. c.loop-b.invariant d (omega (arith, inside, c.loop-b-test.false))) grows)),
)
