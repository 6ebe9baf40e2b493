-- What a draft shows after one call: a net more, and the gates of an adder.
use Rattle.std.specs.Prelude.{◌≡◌, ℕ, zero, suc, ◌+◌, ◌-◌, ◌*◌, ◌≤◌, List, [], ◌∷◌, ◌++◌, All, length, map, set, take, drop, replicate, slice_range}
use Rattle.std.proofs.Common.{arith, refl, ap, ◌∙◌, append_assoc, length-append}
use Rattle.std.proofs.lemmas.List.{map-set, drop-append-le, take-append-le, drop_at, take_all, length-drop}
use Rattle.gos_gates.specs.declared.draft.Place.{Place}
use Rattle.gos_gates.specs.Lowered.{gate_of, literals_from}
use Rattle.gos_gates.specs.inner.Layout.{plain, turned, differ_gates, add_gates}
use Rattle.gos_gates.specs.inner.Laying.{Laid, next_variable}

pub map_same : {A B : Type 0} (f : A → B) (n : ℕ) (x : A) → map f (replicate n x) ≡ replicate n (f x)
map_same f zero x = refl
map_same f (suc n) x = ap (λ xs. f x ∷ xs) (map_same f n x)

-- the literals at a place
abbrev pub at_place : List ℕ → Place → List ℕ
at_place ls p = slice_range ls p.from p.to

abbrev pub IsWithin : List ℕ → Place → Type 0
IsWithin ls p = (p.from ≤ p.to) × (p.to ≤ length ls)

same_place : (ls more : List ℕ) (p : Place) → IsWithin ls p → at_place (ls ++ more) p ≡ at_place ls p
same_place ls more p within =
    let start : p.from ≤ length ls = omega (arith, within.0, within.1) in
    let room : p.to - p.from ≤ length (drop p.from ls) = omega (arith, length-drop p.from ls, within.0, within.1) in
    ap (take (p.to - p.from)) (drop-append-le p.from ls more start) ∙ take-append-le (p.to - p.from) (drop p.from ls) more room

same_places : (ls more : List ℕ) (ps : List Place) → All (IsWithin ls) ps → map (at_place (ls ++ more)) ps ≡ map (at_place ls) ps
same_places ls more [] within = refl
same_places ls more (p ∷ ps) within =
    let first = same_place ls more p (within 0 p (omega arith)) in
    let rest = same_places ls more ps (λ k d low. within (suc k) d (omega (arith, low))) in
    (λ i. first i ∷ rest i)

new_place : (ls more : List ℕ) → at_place (ls ++ more) (record { from = length ls; to = length (ls ++ more) }) ≡ more
new_place ls more =
    ap (take (length (ls ++ more) - length ls)) (drop_at ls more (length ls) refl) ∙ take_all (length (ls ++ more) - length ls) more (omega (arith, length-append ls more))

pub put_shows : (ls more : List ℕ) (ps : List Place) (n : ℕ) → All (IsWithin ls) ps
    → map (at_place (ls ++ more)) (set ps n (record { from = length ls; to = length (ls ++ more) })) ≡ set (map (at_place ls) ps) n more
put_shows ls more ps n within =
    map-set (at_place (ls ++ more)) ps n (record { from = length ls; to = length (ls ++ more) })
    ∙ (λ i. set (same_places ls more ps within i) n (new_place ls more i))

pub add_done : (s t u w : Laid) (c a b h first second : ℕ) → t ≡ record s { gates = s.gates ++ differ_gates (next_variable s) a b } → h ≡ plain (next_variable s + 2)
    → u ≡ record t { gates = t.gates ++ differ_gates (next_variable t) h c } → first ≡ next_variable s → second ≡ next_variable t
    → w ≡ record u { gates = u.gates ++ gate_of (turned first) (turned second) ∷ [] }
    → w ≡ record s { gates = s.gates ++ add_gates (next_variable s) c a b }
add_done s t u w c a b h first second et eh eu e1 e2 ew =
    let later : next_variable t ≡ next_variable s + 3 =
    omega (arith, ap (λ (x : Laid). x.base) et, ap (λ (x : Laid). length x.gates) et, length-append s.gates (differ_gates (next_variable s) a b)) in
    let base : w.base ≡ s.base = ap (λ (x : Laid). x.base) ew ∙ (ap (λ (x : Laid). x.base) eu ∙ ap (λ (x : Laid). x.base) et) in
    let nets : w.nets ≡ s.nets = ap (λ (x : Laid). x.nets) ew ∙ (ap (λ (x : Laid). x.nets) eu ∙ ap (λ (x : Laid). x.nets) et) in
    let one : t.gates ≡ s.gates ++ differ_gates (next_variable s) a b = ap (λ (x : Laid). x.gates) et in
    let two : u.gates ≡ t.gates ++ differ_gates (next_variable s + 3) (plain (next_variable s + 2)) c =
    ap (λ (x : Laid). x.gates) eu ∙ (λ i. t.gates ++ differ_gates (later i) (eh i) c) in
    let three : w.gates ≡ u.gates ++ gate_of (turned (next_variable s)) (turned (next_variable s + 3)) ∷ [] =
    ap (λ (x : Laid). x.gates) ew ∙ (λ i. u.gates ++ gate_of (turned (e1 i)) (turned ((e2 ∙ later) i)) ∷ []) in
    let last : List (ℕ × ℕ) = gate_of (turned (next_variable s)) (turned (next_variable s + 3)) ∷ [] in
    let d1 : List (ℕ × ℕ) = differ_gates (next_variable s) a b in
    let d2 : List (ℕ × ℕ) = differ_gates (next_variable s + 3) (plain (next_variable s + 2)) c in
    let gates : w.gates ≡ s.gates ++ (d1 ++ (d2 ++ last)) =
    three ∙ (ap (λ (gs : List (ℕ × ℕ)). gs ++ last) (two ∙ ap (λ (gs : List (ℕ × ℕ)). gs ++ d2) one) ∙ (append_assoc (s.gates ++ d1) d2 last ∙ append_assoc s.gates d1 (d2 ++ last))) in
    (λ i. record { base = base i; gates = gates i; nets = nets i })

-- one variable more
pub literals_more : (v n : ℕ) → literals_from v (n + 1) ≡ literals_from v n ++ 2 * (v + n) ∷ []
literals_more v n = let e : n + 1 ≡ suc n = omega arith in ap (literals_from v) e ∙ one v n
  where
    one : (v n : ℕ) → literals_from v (suc n) ≡ literals_from v n ++ 2 * (v + n) ∷ []
    one v zero = let e : v ≡ v + 0 = omega arith in ap (λ (k : ℕ). 2 * k ∷ []) e
    one v (suc n) =
        let e : suc v + n ≡ v + suc n = omega arith in
        ap (λ (ls : List ℕ). 2 * v ∷ ls) (one (suc v) n ∙ ap (λ (k : ℕ). literals_from (suc v) n ++ 2 * k ∷ []) e)
