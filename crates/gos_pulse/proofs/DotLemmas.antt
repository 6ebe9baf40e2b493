-- The first dot of a dotted name stands behind its port's name.
use Rattle.std.proofs.Common.{◌≡◌, ℕ, zero, suc, ◌+◌, ◌<◌, [], ◌∷◌, ◌++◌, length, take, drop, drop-cons, get_or, true, sym, ◌∙◌, ap, subst, arith, inl, inr, true≢false, length-append}
use Rattle.std.specs.List.{list_all}
use Rattle.std.proofs.lemmas.Bool.{and_parts, cases_lt}
use Rattle.std.proofs.lemmas.List.Sums.{AllPass-from_list_all}
use Rattle.std.proofs.lemmas.List.{take-append-drop}
use Rattle.std.proofs.Math.Seq.{get_or-append_seam, take-append_seam, drop-append-add}
use Rattle.std.proofs.Math.ListN.{get_or-append}
use Rattle.gos_lex.specs.Bytes.{begins_name, continues_name}
use Rattle.gos_lex.specs.Names.{spells_name, IsNameOrWord}
use Rattle.gos_lex.specs.Lines.{Word}
use Rattle.gos_pulse.specs.Entries.{IsDotted}
use Rattle.gos_pulse.specs.inner.EntryLine.{HasNames, IsFirstDot}

no_dot : (bytes : Word) (k : ℕ) → list_all continues_name bytes ≡ true → k < length bytes → get_or bytes k 0 ≡ 46 → ⊥
no_dot bytes k all within dot =
    let continues : continues_name (get_or bytes k 0) ≡ true = AllPass-from_list_all continues_name bytes all k 0 within in
    let wrong : continues_name 46 ≡ true = subst (λ (b : ℕ). continues_name b ≡ true) dot continues in
    true≢false (sym wrong)

-- a name has no dot
no_dot_in_name : (name : Word) (k : ℕ) → spells_name name ≡ true → k < length name → get_or name k 0 ≡ 46 → ⊥
no_dot_in_name [] k spelled within dot = absurd (omega (arith, within))
no_dot_in_name (b ∷ bytes) zero spelled within dot =
    let parts = and_parts (begins_name b) (list_all continues_name bytes) spelled in
    let wrong : begins_name 46 ≡ true = subst (λ (x : ℕ). begins_name x ≡ true) dot parts.0 in
    true≢false (sym wrong)
no_dot_in_name (b ∷ bytes) (suc k) spelled within dot =
    let parts = and_parts (begins_name b) (list_all continues_name bytes) spelled in
    no_dot bytes k parts.1 (omega (arith, within)) dot

dot_is : (port event : Word) (dot : ℕ) → spells_name port ≡ true → IsFirstDot (port ++ 46 ∷ event) dot → dot ≡ length port
dot_is port event dot spelled first =
    let size : length (port ++ 46 ∷ event) ≡ length port + length (46 ∷ event) = length-append port (46 ∷ event) in
    elim (cases_lt dot (length port)) [
      | inl early ↦
          let within : dot < length (port ++ 46 ∷ event) = omega (arith, early, size) in
          let dotted : get_or port dot 0 ≡ 46 = sym (get_or-append port (46 ∷ event) 0 dot early) ∙ first.found within in
          absurd (no_dot_in_name port dot spelled early dotted)
      | inr late ↦ elim (cases_lt (length port) dot) [
        | inl over ↦ absurd (first.before (length port) over (get_or-append_seam port 46 event 0))
        | inr under ↦ omega (arith, late, under)
      ]
    ]

names_apart : (port event : Word) (dot : ℕ) → IsNameOrWord port → IsNameOrWord event → IsFirstDot (port ++ 46 ∷ event) dot → (dot < length (port ++ 46 ∷ event)) × HasNames (port ++ 46 ∷ event) dot
names_apart port event dot port_is event_is first =
    let place : dot ≡ length port = dot_is port event dot port_is.spelled first in
    let size : length (port ++ 46 ∷ event) ≡ length port + length (46 ∷ event) = length-append port (46 ∷ event) in
    let front : take (length port) (port ++ 46 ∷ event) ≡ port = take-append_seam port (46 ∷ event) in
    let back : drop (length port + 1) (port ++ 46 ∷ event) ≡ event = drop-append-add port (46 ∷ event) 1 in
    subst (λ (n : ℕ). (n < length (port ++ 46 ∷ event)) × HasNames (port ++ 46 ∷ event) n) (sym place)
    (omega (arith, size), (subst IsNameOrWord (sym front) port_is, subst IsNameOrWord (sym back) event_is))

-- the first dot of a dotted name has names on both sides
pub dotted_at : (word : Word) (dot : ℕ) → IsFirstDot word dot → IsDotted word → (dot < length word) × HasNames word dot
dotted_at word dot first dotted =
    let core = names_apart dotted.0 dotted.1 dot dotted.3 dotted.4 in
    subst (λ (w : Word). IsFirstDot w dot → (dot < length w) × HasNames w dot) (sym dotted.2) core first

-- and where it has, the name is dotted
pub dotted_from : (word : Word) (dot : ℕ) → IsFirstDot word dot → dot < length word → HasNames word dot → IsDotted word
dotted_from word dot first within names =
    let next : dot + 1 ≡ suc dot = omega arith in
    let rest : drop dot word ≡ 46 ∷ drop (dot + 1) word = drop-cons word dot 0 within ∙ (λ i. first.found within i ∷ drop (sym next i) word) in
    (take dot word, drop (dot + 1) word, sym (take-append-drop dot word) ∙ ap (λ more. take dot word ++ more) rest, names.0, names.1)
