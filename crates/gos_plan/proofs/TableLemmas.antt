-- Tables of words, of which none begins another: where none of them stands, and that they are told apart.
use Rattle.std.proofs.Common.{◌≡◌, inl, inr, ℕ, zero, suc, ◌<◌, Bool, true, false, List, [], ◌∷◌, ◌++◌, length, map, get_or, Some, slice_get, refl, sym, ◌∙◌, ap, subst, arith}
use Rattle.std.specs.Prelude.{if◌then◌else◌, ◌&&◌}
use Rattle.std.specs.List.{list_all}
use Rattle.std.proofs.Math.Dec.{eqb}
use Rattle.std.proofs.lemmas.Bool.{eqb-false, and_parts, cases_lt}
use Rattle.gos_lex.specs.Items.{Misses}
use Rattle.gos_lex.specs.ItemTexts.{IsTextOf, IsAmong}
use Rattle.gos_lex.proofs.SequenceLemmas.{IsCode, misses_as, same_fronts}
use Rattle.gos_plan.specs.declared.fault.ObjectFault.TheVariants as faults
use Rattle.gos_plan.specs.TextItems.{Fails, plain, words}
use Rattle.gos_plan.proofs.TextLemmas.{Lawful, lawful_plain}

-- whether two words differ at a byte that both have
abbrev clash : List ℕ → List ℕ → Bool
clash [] b = false
clash (c ∷ a) [] = false
clash (c ∷ a) (d ∷ b) = if eqb c d then clash a b else true

clash_apart : (a b x y : List ℕ) → clash a b ≡ true → a ++ x ≡ b ++ y → ⊥
clash_apart [] b x y differ same = absurd cc
clash_apart (c ∷ a) [] x y differ same = absurd cc
clash_apart (c ∷ a) (d ∷ b) x y differ same = at_byte (eqb c d) refl differ (λ more. clash_apart a b x y more rest)
  where
    byte : c ≡ d
    byte = ap (λ (bytes : List ℕ). get_or bytes 0 0) same

    rest : a ++ x ≡ b ++ y
    rest = cc same

    at_byte : (t : Bool) → eqb c d ≡ t → (if t then clash a b else true) ≡ true → (clash a b ≡ true → ⊥) → ⊥
    at_byte true e more behind = behind more
    at_byte false e more behind = eqb-false c d e byte

-- whether each two words of a table do
abbrev pub is_apart : List (List ℕ) → Bool
is_apart [] = true
is_apart (t ∷ ts) = list_all (clash t) ts && is_apart ts

clash_first : (t : List ℕ) (ts : List (List ℕ)) (j : ℕ) (b : List ℕ) → list_all (clash t) ts ≡ true → slice_get ts j ≡ Some b → clash t b ≡ true
clash_first t [] j b all is = absurd cc
clash_first t (u ∷ ts) zero b all is =
    let same : u ≡ b = cc is in
    subst (λ (w : List ℕ). clash t w ≡ true) same (and_parts (clash t u) (list_all (clash t) ts) all).0
clash_first t (u ∷ ts) (suc j) b all is = clash_first t ts j b (and_parts (clash t u) (list_all (clash t) ts) all).1 is

clash_of : (ts : List (List ℕ)) (i j : ℕ) (a b : List ℕ) → is_apart ts ≡ true → i < j → slice_get ts i ≡ Some a → slice_get ts j ≡ Some b → clash a b ≡ true
clash_of [] i j a b apart order one other = absurd cc
clash_of (t ∷ ts) zero zero a b apart order one other = absurd (omega (arith, order))
clash_of (t ∷ ts) zero (suc j) a b apart order one other =
    let same : t ≡ a = cc one in
    subst (λ (w : List ℕ). clash w b ≡ true) same (clash_first t ts j b (and_parts (list_all (clash t) ts) (is_apart ts) apart).0 other)
clash_of (t ∷ ts) (suc i) zero a b apart order one other = absurd (omega (arith, order))
clash_of (t ∷ ts) (suc i) (suc j) a b apart order one other =
    clash_of ts i j a b (and_parts (list_all (clash t) ts) (is_apart ts) apart).1 (omega (arith, order)) one other

-- a table of some values of a type, with the place of each
pub record TableOf (V : Type 0) (Is : V → Type 0) (text : V → List ℕ) : Type 0 where
  pub all : List V
  pub apart : is_apart (map text all) ≡ true
  pub place : V → ℕ
  pub stands : (v : V) → Is v → slice_get all (place v) ≡ Some v
  pub among : (k : ℕ) (v : V) → slice_get all k ≡ Some v → Is v

-- a table of all values
pub record Table (V : Type 0) (text : V → List ℕ) : Type 0 where
  pub all : List V
  pub apart : is_apart (map text all) ≡ true
  pub place : V → ℕ
  pub stands : (v : V) → slice_get all (place v) ≡ Some v

abbrev pub table_of : (V : Type 0) (text : V → List ℕ) → Table V text → TableOf V (λ v. Unit {0}) text
table_of V text table =
    record { all = table.all; apart = table.apart; place = table.place; stands = λ v is. table.stands v; among = λ k v at. tt }

text_at : (V : Type 0) (text : V → List ℕ) (all : List V) (k : ℕ) (v : V) → slice_get all k ≡ Some v
    → (slice_get (map text all) k ≡ Some (text v)) × (k < length (map text all)) × (get_or (map text all) k [] ≡ text v)
text_at V text [] k v is = absurd cc
text_at V text (u ∷ all) zero v is = let same : u ≡ v = cc is in (ap (λ (w : V). Some (text w)) same, omega arith, ap text same)
text_at V text (u ∷ all) (suc k) v is = let known = text_at V text all k v is in (known.0, omega (arith, known.1), known.2)

pub code_of : (V : Type 0) (Is : V → Type 0) (text : V → List ℕ) → TableOf V Is text → IsCode V Is text
code_of V Is text table v w x y is_v is_w same = by_place
  where
    one : slice_get (map text table.all) (table.place v) ≡ Some (text v)
    one = (text_at V text table.all (table.place v) v (table.stands v is_v)).0

    other : slice_get (map text table.all) (table.place w) ≡ Some (text w)
    other = (text_at V text table.all (table.place w) w (table.stands w is_w)).0

    equal : table.place v ≡ table.place w → (v ≡ w) × (x ≡ y)
    equal here =
        let both : Some v ≡ Some w = sym (table.stands v is_v) ∙ (ap (slice_get table.all) here ∙ table.stands w is_w) in
        let value : v ≡ w = cc both in
        (value, (same_fronts (text v) x (text w) y same (ap (λ (u : V). length (text u)) value)).1)

    by_place : (v ≡ w) × (x ≡ y)
    by_place =
        elim (cases_lt (table.place v) (table.place w)) [
          | inl before ↦ absurd (clash_apart (text v) (text w) x y (clash_of (map text table.all) (table.place v) (table.place w) (text v) (text w) table.apart before one other) same)
          | inr after ↦
              elim (cases_lt (table.place w) (table.place v)) [
                | inl before ↦ absurd (clash_apart (text w) (text v) y x (clash_of (map text table.all) (table.place w) (table.place v) (text w) (text v) table.apart before other one) (sym same))
                | inr here ↦ equal (omega (arith, after, here))
              ]
        ]

pub table_code : (V : Type 0) (text : V → List ℕ) → Table V text → IsCode V (λ v. Unit {0}) text
table_code V text table = code_of V (λ v. Unit {0}) text (table_of V text table)

pub lawful_words : (V : Type 0) (text : V → List ℕ) → Table V text → V → Lawful (words V text)
lawful_words V text table v = lawful_plain V (λ v. Unit {0}) text (table_code V text table) v tt

-- each place of a table has a value
value_at : (V : Type 0) (text : V → List ℕ) (all : List V) (k : ℕ) → k < length (map text all)
    → (v : V) × (slice_get all k ≡ Some v) × (get_or (map text all) k [] ≡ text v)
value_at V text [] k inside = absurd (omega (arith, inside))
value_at V text (v ∷ all) zero inside = (v, refl, refl)
value_at V text (v ∷ all) (suc k) inside = value_at V text all k (omega (arith, inside))

-- where no text of a table stands, none of a value does
pub table_fails : (V : Type 0) (Is : V → Type 0) (text : V → List ℕ) (table : TableOf V Is text) (shown : List (List ℕ)) → shown ≡ map text table.all
    → (source : List ℕ) (at place : ℕ) → Misses (IsAmong shown) source at place → Fails (plain V Is text) source at (faults.Form place)
table_fails V Is text table shown same source at place misses = (
  misses_as (IsAmong (map text table.all)) (IsTextOf V Is text) source at place
      (λ bytes item. let known = value_at V text table.all item.0 item.1 in (known.0, table.among item.0 known.0 known.1, item.2 ∙ known.2))
      (λ bytes item. let known = text_at V text table.all (table.place item.0) item.0 (table.stands item.0 item.1) in (table.place item.0, known.1, item.2 ∙ sym known.2))
      (subst (λ (ts : List (List ℕ)). Misses (IsAmong ts) source at place) same misses),
  λ p over. over,
)

pub words_fail : (V : Type 0) (text : V → List ℕ) (table : Table V text) (shown : List (List ℕ)) → shown ≡ map text table.all
    → (source : List ℕ) (at place : ℕ) → Misses (IsAmong shown) source at place → Fails (words V text) source at (faults.Form place)
words_fail V text table = table_fails V (λ v. Unit {0}) text (table_of V text table)
