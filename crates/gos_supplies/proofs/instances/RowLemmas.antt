-- Supplies in a row of wirings, with one other wiring between them.
use Rattle.std.specs.Prelude.{◌≡◌, ℕ, zero, suc, ◌+◌, ◌<◌, List, [], ◌∷◌, ◌++◌, length, Some, slice_get}
use Rattle.std.proofs.Common.{refl, sym, ◌∙◌, ap, subst, arith}
use Rattle.std.proofs.lemmas.List.{length-map}
use Rattle.gos_types.proofs.ListLemmas.{found_in_front, found_behind}
use Rattle.gos_plan.specs.Plans.{Plan, IsRight}
use Rattle.gos_plan.specs.Joining.{Wiring, IsJoining}
use Rattle.gos_realises.specs.realises.Modules.{Supply, plans_of}
use Rattle.gos_joining.specs.unions.Unions.{LinksStand}
use Rattle.gos_joining.specs.unions.Flat.{all_plans, first_of, AreJoinings, AllLinksStand}
use Rattle.gos_supplies.proofs.applications.SeamLemmas.{single, singles, single_plans, single_first, single_at}
use Rattle.gos_supplies.proofs.applications.SingleLemmas.{singles_join, singles_stand}

row_plans : (fs : List Supply) (ws : List Wiring) → all_plans (singles fs ++ ws) ≡ plans_of fs ++ all_plans ws
row_plans [] ws = refl
row_plans (f ∷ fs) ws = ap (λ (ps : List Plan). f.plan ∷ ps) (row_plans fs ws)

row_before : (fs : List Supply) (ws : List Wiring) (i : ℕ) → i < length fs → first_of (singles fs ++ ws) i ≡ i
row_before [] ws i low = absurd (omega (arith, low))
row_before (f ∷ fs) ws zero low = refl
row_before (f ∷ fs) ws (suc i) low = let rest = row_before fs ws i (omega (arith, low)) in omega (arith, rest)

row_behind : (fs : List Supply) (ws : List Wiring) (i : ℕ) → first_of (singles fs ++ ws) (length fs + i) ≡ length fs + first_of ws i
row_behind [] ws i = let zeros : 0 + i ≡ i = omega arith in let sum : first_of ws i ≡ 0 + first_of ws i = omega arith in ap (first_of ws) zeros ∙ sum
row_behind (f ∷ fs) ws i =
    let next : suc (length fs) + i ≡ suc (length fs + i) = omega arith in
    let rest = row_behind fs ws i in
    let sum : 1 + (length fs + first_of ws i) ≡ suc (length fs) + first_of ws i = omega arith in
    ap (first_of (single f ∷ (singles fs ++ ws))) next ∙ (ap (λ (n : ℕ). 1 + n) rest ∙ sum)

row_at : (fs : List Supply) (ws : List Wiring) (i : ℕ) → slice_get (singles fs ++ ws) (length fs + i) ≡ slice_get ws i
row_at fs ws i =
    let size : length (singles fs) ≡ length fs = length-map fs single in
    ap (λ (n : ℕ). slice_get (singles fs ++ ws) (n + i)) (sym size) ∙ found_behind (singles fs) ws i

pub row_stand : (fs bs : List Supply) (w : Wiring) → LinksStand w → AllLinksStand (singles fs ++ (w ∷ singles bs))
row_stand [] bs w stand = (stand, singles_stand bs)
row_stand (f ∷ fs) bs w stand = ((singles_stand (f ∷ [])).0, row_stand fs bs w stand)

one_right : (f : Supply) → IsRight f.plan → (n : ℕ) (p : Plan) → slice_get (plans_of (f ∷ [])) n ≡ Some p → IsRight p
one_right f is zero p at = let same : f.plan ≡ p = cc at in subst IsRight same is
one_right f is (suc n) p at = absurd (cc at)

pub row_join : (fs bs : List Supply) (w : Wiring) (v : Supply) → IsJoining w v.plan
    → ((n : ℕ) (p : Plan) → slice_get (plans_of fs) n ≡ Some p → IsRight p) → ((n : ℕ) (p : Plan) → slice_get (plans_of bs) n ≡ Some p → IsRight p)
    → AreJoinings (singles fs ++ (w ∷ singles bs)) (plans_of (fs ++ (v ∷ bs)))
row_join [] bs w v joining rights others = (joining, singles_join bs others)
row_join (f ∷ fs) bs w v joining rights others =
    ((singles_join (f ∷ []) (one_right f (rights 0 f.plan refl))).0, row_join fs bs w v joining (λ n p at. rights (suc n) p at) others)

module _ (fs bs : List Supply) (w : Wiring) where
  abbrev pub row : List Wiring
  row = singles fs ++ (w ∷ singles bs)

  pub plans_in : all_plans row ≡ plans_of fs ++ (w.plans ++ plans_of bs)
  plans_in = row_plans fs (w ∷ singles bs) ∙ ap (λ (ps : List Plan). plans_of fs ++ (w.plans ++ ps)) (single_plans bs)

  pub before_at : (i : ℕ) → i < length fs → (u : Supply) × (slice_get row i ≡ Some (single u)) × (first_of row i ≡ i)
  before_at i low =
      let (u, at) = single_at fs i low in
      (u, found_in_front (singles fs) (w ∷ singles bs) i (single u) at, row_before fs (w ∷ singles bs) i low)

  pub middle_at : (slice_get row (length fs + 0) ≡ Some w) × (first_of row (length fs + 0) ≡ length fs)
  middle_at =
      let zeros : length fs + 0 ≡ length fs = omega arith in
      (row_at fs (w ∷ singles bs) 0, row_behind fs (w ∷ singles bs) 0 ∙ zeros)

  pub behind_at : (i : ℕ) → i < length bs
      → (u : Supply) × (slice_get row (length fs + suc i) ≡ Some (single u)) × (first_of row (length fs + suc i) ≡ length fs + (length w.plans + i))
  behind_at i low =
      let (u, at) = single_at bs i low in
      let first = single_first bs i low in (
        u,
        row_at fs (w ∷ singles bs) (suc i) ∙ at,
        row_behind fs (w ∷ singles bs) (suc i) ∙ ap (λ (n : ℕ). length fs + (length w.plans + n)) first,
      )
