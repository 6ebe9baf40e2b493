-- What a Share puts: at its source, or, of what it takes from its source, at the caller of its branch.
use Rattle.std.specs.Prelude.{◌+◌, ◌-◌, ◌*◌, ◌<◌}
use Rattle.std.proofs.Common.{◌≡◌, ℕ, zero, suc, [], ◌∷◌, ◌⊎◌, Some, inl, inr, refl, arith}
use Rattle.std.proofs.lemmas.Option.{slice_get_within}
use Rattle.gos_types.specs.declared.shakes.Role.{Role}
use Rattle.gos_types.specs.declared.shakes.Role.TheVariants.{Serve, Ask}
use Rattle.gos_types.specs.Types.{Type'}
use Rattle.gos_plan.specs.Kinds.{Share, contacts_of}
use Rattle.gos_plan.specs.Firing.{State, Slot, Req, Ans, Token, Row, put, shared_rows, firing}
use Rattle.gos_plan.specs.Tokens.{shake_of}
use Rattle.gos_plan.proofs.RowLemmas.{EachRow}
use Rattle.gos_plan.proofs.ShareTableLemmas.{share_row}
use Rattle.gos_realises.specs.realises.Regular.{count}

abbrev pub ShareRow : Type' → ℕ → Row → Type 0
ShareRow t b r =
    (v : ℕ)
    → (x : Token) × (r.puts v ≡ x ∷ [])
    × ((shake_of x.slot < count t) ⊎ ((m : ℕ) × (m < count t) × (shake_of x.slot ≡ count t + b * count t + m) × (shake_of r.takes < count t)))

of_role : (t : Type') (b j : ℕ) (role : Role) → j < count t → EachRow (ShareRow t b) (shared_rows role (count t) j b)
of_role t b j Serve low = (
  (λ v. (put (Req j) v, refl, inl low)),
  ((λ v. (put (Req j) v, refl, inl low)), ((λ v. (put (Ans (count t + b * count t + j)) v, refl, inr (j, low, refl, low))), tt)),
)
of_role t b j Ask low = (
  (λ v. (put (Req (count t + b * count t + j)) v, refl, inr (j, low, refl, low))),
  ((λ v. (put (Ans j) v, refl, inl low)), tt),
)

pub share_puts : (t : Type') (q : State) (slot : Slot) (r : Row) → firing (Share t) q slot ≡ Some r → (r.takes ≡ slot) × ShareRow t q.number r
share_puts t q slot r e = share_row (ShareRow t q.number) t q slot r (λ j c at. of_role t q.number j c.role (slice_get_within (contacts_of t) j c at)) e

-- the other caller's handshakes are neither the source's nor those of the branch
pub not_source : (n side m h : ℕ) → side < 2 → h ≡ n + (1 - side) * n + m → h < n → ⊥
not_source n zero m h two e low = omega (arith, e, low)
not_source n (suc zero) m h two e low = omega (arith, e, low)
not_source n (suc (suc side)) m h two e low = omega (arith, two)

pub not_branch : (n side m l h : ℕ) → side < 2 → h ≡ n + (1 - side) * n + m → m < n → h ≡ n + side * n + l → l < n → ⊥
not_branch n zero m l h two e low is small = omega (arith, e, low, is, small)
not_branch n (suc zero) m l h two e low is small = omega (arith, e, low, is, small)
not_branch n (suc (suc side)) m l h two e low is small = omega (arith, two)
