-- What the part of `||` does: the row by which it fires, phase by phase.
use Rattle.std.specs.Prelude.{◌≡◌, ℕ, [], ◌∷◌, Some}
use Rattle.std.proofs.Common.{refl, sym, inl, inr}
use Rattle.gos_plan.specs.Kinds.{Par}
use Rattle.gos_plan.specs.Firing.{Phase, Rest, Both, LeftOnly, RightOnly, Slot, Req, Ans, Row, at, put, row, quiet_row, rows, row_for}
use Rattle.gos_plan.specs.laws.Inversion.{first_or_later, no_row}

abbrev pub begin_row : ℕ → Row
begin_row n = record { takes = Req 2; next = λ v. at Both n; puts = λ v. put (Req 0) 0 ∷ put (Req 1) 0 ∷ [] }

abbrev pub end_row : ℕ → ℕ → Row
end_row h n = row (Ans h) (at Rest n) (λ v. put (Ans 2) 0)

pub data ParRow (ph : Phase) (n : ℕ) (slot : Slot) (w : Row) : Type 0 where
  begins : ph ≡ Rest → slot ≡ Req 2 → w ≡ begin_row n → ParRow ph n slot w
  left_first : ph ≡ Both → slot ≡ Ans 0 → w ≡ quiet_row (Ans 0) (at RightOnly n) → ParRow ph n slot w
  right_first : ph ≡ Both → slot ≡ Ans 1 → w ≡ quiet_row (Ans 1) (at LeftOnly n) → ParRow ph n slot w
  left_last : ph ≡ LeftOnly → slot ≡ Ans 0 → w ≡ end_row 0 n → ParRow ph n slot w
  right_last : ph ≡ RightOnly → slot ≡ Ans 1 → w ≡ end_row 1 n → ParRow ph n slot w

pub par_row : (ph : Phase) (n : ℕ) (slot : Slot) (w : Row) → row_for slot (rows Par ph n) ≡ Some w → ParRow ph n slot w
par_row Rest n slot w e =
    elim (first_or_later (begin_row n) w [] slot e) [ inl one ↦ begins refl (sym one.0) (sym one.1) | inr none ↦ absurd (no_row w slot none) ]
par_row Both n slot w e =
    elim (first_or_later (quiet_row (Ans 0) (at RightOnly n)) w (quiet_row (Ans 1) (at LeftOnly n) ∷ []) slot e) [
      | inl one ↦ left_first refl (sym one.0) (sym one.1)
      | inr other ↦
          elim (first_or_later (quiet_row (Ans 1) (at LeftOnly n)) w [] slot other) [
            | inl one ↦ right_first refl (sym one.0) (sym one.1)
            | inr none ↦ absurd (no_row w slot none)
          ]
    ]
par_row LeftOnly n slot w e =
    elim (first_or_later (end_row 0 n) w [] slot e) [ inl one ↦ left_last refl (sym one.0) (sym one.1) | inr none ↦ absurd (no_row w slot none) ]
par_row RightOnly n slot w e =
    elim (first_or_later (end_row 1 n) w [] slot e) [ inl one ↦ right_last refl (sym one.0) (sym one.1) | inr none ↦ absurd (no_row w slot none) ]
par_row ph n slot w e = absurd (no_row w slot e)
