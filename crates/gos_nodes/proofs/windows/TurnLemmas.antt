-- Turns at the ports of a plan, with a command or an expression for its result.
use Rattle.std.specs.Prelude.{◌+◌, ◌-◌, ◌<◌, slice_get, nat_lt}
use Rattle.std.proofs.Common.{◌≡◌, ℕ, zero, suc, Bool, true, false, List, [], ◌∷◌, ◌⊎◌, Option, Some, inl, inr, refl, sym, ◌∙◌, ap, subst, arith, if◌then◌else◌}
use Rattle.std.proofs.lemmas.Option.{none-some, same_Some, slice_get_within}
use Rattle.std.proofs.lemmas.Bool.Decides.{nat_tests}
use Rattle.gos_types.specs.declared.shakes.Role.{Role}
use Rattle.gos_types.specs.declared.shakes.Role.TheVariants.{Serve, Ask}
use Rattle.gos_types.specs.Types.{Type', Com, Exp, Var, Pair, Fun, IsDone}
use Rattle.gos_types.specs.Events.{Direction, Request, Answer}
use Rattle.gos_model.specs.Typing.{Imported}
use Rattle.gos_plan.specs.Kinds.{Contact, contacts_of}
use Rattle.gos_plan.specs.Plans.{End, ImportEnd, ResultEnd, Plan, contact_at, contacts_of_import, turned_if, same_end}
use Rattle.gos_plan.specs.Tokens.{Element, Fire, Out, In, way_put}
use Rattle.gos_plan.proofs.JointLemmas.{same_is, same_itself}
use Rattle.gos_realises.specs.realises.Regular.{count, some_open, Pass, pass, way_in, way_out, is_open, KeepsTurnsOf, whole_type, whole_end, ComesInTurn, KeepsTurns, InputsKeepTurns}
use Rattle.gos_realises.proofs.realises.GroundTurnLemmas.{width, width_small, some_there, there_some, done_kept, result_open, result_end}
use Rattle.gos_realises.proofs.realises.RingLemmas.{after}
use Rattle.gos_realises.proofs.realises.ToldLemmas.{there_is}
use Rattle.gos_joining.proofs.renumbered.TurnLemmas.{of_import, of_result, ImportKeeps, keeps_each, each_keeps}
use Rattle.gos_joining.specs.webs.Cutting.{Cut}
use Rattle.gos_nodes.proofs.windows.MeetLemmas.{Meets, HasPorts, AreFollowed, met_at, alike}
use Rattle.gos_nodes.proofs.windows.TypeTurnLemmas.{OpenServed, closed_kept, open_served}

-- the ways at a result and at an import
pub result_way_in : (t : Type') → IsDone t → way_in (turned_if (slice_get (contacts_of t) 0)) ≡ Request
result_way_in Com done = refl
result_way_in (Exp w) done = refl
result_way_in (Var w) done = absurd done
result_way_in (Pair a b) done = absurd done
result_way_in (Fun a b) done = absurd done

pub result_way_out : (t : Type') → IsDone t → way_out (turned_if (slice_get (contacts_of t) 0)) ≡ Answer
result_way_out Com done = refl
result_way_out (Exp w) done = refl
result_way_out (Var w) done = absurd done
result_way_out (Pair a b) done = absurd done
result_way_out (Fun a b) done = absurd done

pub result_in : (p : Plan) → IsDone p.outcome → way_in (contact_at p (ResultEnd 0)) ≡ Request
result_in p done = result_way_in p.outcome done

pub result_out : (p : Plan) → IsDone p.outcome → way_out (contact_at p (ResultEnd 0)) ≡ Answer
result_out p done = result_way_out p.outcome done

pub way_in_of : (p : Plan) (e : End) (c : Contact) → contact_at p e ≡ Some c → way_in (contact_at p e) ≡ way_put c.role
way_in_of p e c is = ap way_in is

-- what is open at a plan's ports keeps its turns
abbrev pub Turned : Plan → List Pass → Type 0
Turned p past = KeepsTurnsOf (whole_type p.imports p.outcome) (λ h. is_open past (whole_end 0 p.imports h))

-- The turns of the whole are those of its imports, each of which has an open handshake only where the result has.
pub import_kept : (p : Plan) (past : List Pass) → Turned p past → (i : ℕ) (x : Imported) → slice_get p.imports i ≡ Some x
    → KeepsTurnsOf x.ty (λ h. is_open past (ImportEnd i h))
import_kept p past turned i x there =
    let each = keeps_each 0 p.imports p.outcome (λ h. is_open past (whole_end 0 p.imports h)) (is_open past) (λ h. refl) turned in
    let same : 0 + i ≡ i = omega arith in
    subst (λ (m : ℕ). KeepsTurnsOf x.ty (λ h. is_open past (ImportEnd m h))) same (each.0 i x there).0

-- Turns are kept where those of the result are, and those of each import that has an open handshake, if then the result has one.
pub ports_turned : (p : Plan) (past : List Pass) → KeepsTurnsOf p.outcome (of_result (is_open past))
    → ((i g : ℕ) (x : Imported) → slice_get p.imports i ≡ Some x → is_open past (ImportEnd i g) ≡ true → KeepsTurnsOf x.ty (λ n. is_open past (ImportEnd i n)))
    → ((i g : ℕ) → is_open past (ImportEnd i g) ≡ true → some_open (count p.outcome) (of_result (is_open past)) ≡ true) → Turned p past
ports_turned p past result kept led =
    each_keeps 0 p.imports p.outcome (λ h. is_open past (whole_end 0 p.imports h)) (is_open past) (λ h. refl)
    (λ i x there. subst (λ (m : ℕ). ImportKeeps (is_open past) m x p.outcome) (zero_plus i) (one i x there), result)
  where
    zero_plus : (i : ℕ) → i ≡ 0 + i
    zero_plus i = omega arith

    closed : (i : ℕ) (x : Imported) → some_open (count x.ty) (of_import (is_open past) i) ≡ false → (h : ℕ) → h < count x.ty → is_open past (ImportEnd i h) ≡ false
    closed i x none h low = by_test (is_open past (ImportEnd i h)) refl
      where
        by_test : (b : Bool) → is_open past (ImportEnd i h) ≡ b → b ≡ false
        by_test false t = refl
        by_test true t = sym (there_some (count x.ty) (of_import (is_open past) i) h low t) ∙ none

    one : (i : ℕ) (x : Imported) → slice_get p.imports i ≡ Some x → ImportKeeps (is_open past) i x p.outcome
    one i x there = (
      by_test (some_open (count x.ty) (of_import (is_open past) i)) refl,
      λ some. let (h, low, up) = some_there (count x.ty) (of_import (is_open past) i) some in led i h up,
    )
      where
        by_test : (b : Bool) → some_open (count x.ty) (of_import (is_open past) i) ≡ b → KeepsTurnsOf x.ty (of_import (is_open past) i)
        by_test false none = closed_kept x.ty (of_import (is_open past) i) (closed i x none)
        by_test true some = let (h, low, up) = some_there (count x.ty) (of_import (is_open past) i) some in kept i h x there up

pub imports_turned : (p : Plan) → IsDone p.outcome → (past : List Pass)
    → ((i h : ℕ) (x : Imported) → slice_get p.imports i ≡ Some x → is_open past (ImportEnd i h) ≡ true → KeepsTurnsOf x.ty (λ n. is_open past (ImportEnd i n)))
    → ((i h : ℕ) → is_open past (ImportEnd i h) ≡ true → is_open past (ResultEnd 0) ≡ true) → Turned p past
imports_turned p done past kept led =
    ports_turned p past (done_kept p.outcome done (of_result (is_open past))) kept
    (λ i h up. there_some (count p.outcome) (of_result (is_open past)) 0 (width_small [] p.outcome done) (led i h up))

-- the result alone is open; nothing is
abbrev pub ImportsClosed : List Pass → Type 0
ImportsClosed past = (k h : ℕ) → is_open past (ImportEnd k h) ≡ false

abbrev pub OnlyResult : List Pass → Type 0
OnlyResult past = (is_open past (ResultEnd 0) ≡ true) × ImportsClosed past

abbrev pub NoneOpen : List Pass → Type 0
NoneOpen past = (is_open past (ResultEnd 0) ≡ false) × ImportsClosed past

-- where no import has an open handshake
pub closed_turned : (p : Plan) → IsDone p.outcome → (past : List Pass) → ImportsClosed past → Turned p past
closed_turned p done past closed =
    imports_turned p done past (λ i h x there up. absurd (never i h up)) (λ i h up. absurd (never i h up))
  where
    never : (i h : ℕ) → is_open past (ImportEnd i h) ≡ true → ⊥
    never i h up = let clash : true ≡ false = sym up ∙ closed i h in cc clash

-- Where the surroundings ask at an import, another of its handshakes is open, and so is the result.
pub asked_beside : (p : Plan) (past : List Pass) (i h : ℕ) (c : Contact) → Turned p (pass (ImportEnd i h) Request ∷ past) → contact_at p (ImportEnd i h) ≡ Some c → c.role ≡ Ask
    → (n : ℕ) × (x : Contact) × (contact_at p (ImportEnd i n) ≡ Some x) × (is_open past (ImportEnd i n) ≡ true)
asked_beside p past i h c turned there asks =
    (served.0, served.1, ap (λ (o : Option Imported). slice_get (contacts_of_import o) served.0) x.1 ∙ served.2, by_test (same_end (ImportEnd i h) (ImportEnd i served.0)) refl served.4)
  where
    x : (x : Imported) × (slice_get p.imports i ≡ Some x)
    x = there_is p.imports i h c there

    own : slice_get (contacts_of x.0.ty) h ≡ Some c
    own = sym (ap (λ (o : Option Imported). slice_get (contacts_of_import o) h) x.1) ∙ there

    served : OpenServed x.0.ty (λ n. is_open (pass (ImportEnd i h) Request ∷ past) (ImportEnd i n))
    served =
        open_served x.0.ty (λ n. is_open (pass (ImportEnd i h) Request ∷ past) (ImportEnd i n))
        (import_kept p (pass (ImportEnd i h) Request ∷ past) turned i x.0 x.1) h (slice_get_within (contacts_of x.0.ty) h c own)
        (ap (λ (b : Bool). if b then true else is_open past (ImportEnd i h)) (same_itself (ImportEnd i h)))

    by_test : (b : Bool) → same_end (ImportEnd i h) (ImportEnd i served.0) ≡ b → (if b then true else is_open past (ImportEnd i served.0)) ≡ true
        → is_open past (ImportEnd i served.0) ≡ true
    by_test false t up = up
    by_test true t up =
        let same : ImportEnd i h ≡ ImportEnd i served.0 = same_is (ImportEnd i h) (ImportEnd i served.0) t in
        let shake : h ≡ served.0 = cc same in
        let one : c ≡ served.1 = same_Some c served.1 (sym own ∙ (ap (slice_get (contacts_of x.0.ty)) shake ∙ served.2)) in
        let clash : Ask ≡ Serve = sym asks ∙ (ap (λ (k : Contact). k.role) one ∙ served.3) in absurd (cc clash)

pub asked_within : (p : Plan) (past : List Pass) (i h : ℕ) (c : Contact) → Turned p (pass (ImportEnd i h) Request ∷ past) → contact_at p (ImportEnd i h) ≡ Some c → c.role ≡ Ask
    → (n : ℕ) × (is_open past (ImportEnd i n) ≡ true)
asked_within p past i h c turned there asks = let (n, x, is, up) = asked_beside p past i h c turned there asks in (n, up)

-- Where an input comes at an import, this or another of its handshakes is open.
pub open_before : (r : Plan) (past : List Pass) (k h : ℕ) (c : Contact) → contact_at r (ImportEnd k h) ≡ Some c
    → KeepsTurns r past (pass (ImportEnd k h) (way_in (contact_at r (ImportEnd k h)))) → (n : ℕ) × (is_open past (ImportEnd k n) ≡ true) × ((n ≡ h) ⊎ (c.role ≡ Ask))
open_before r past k h c there turn = by_role c.role refl
  where
    keeps : KeepsTurns r past (pass (ImportEnd k h) (way_put c.role))
    keeps = subst (λ (way : Direction). KeepsTurns r past (pass (ImportEnd k h) way)) (ap way_in there) turn

    by_role : (role : Role) → c.role ≡ role → (n : ℕ) × (is_open past (ImportEnd k n) ≡ true) × ((n ≡ h) ⊎ (c.role ≡ Ask))
    by_role Serve serves = (h, subst (ComesInTurn past (ImportEnd k h)) (ap way_put serves) keeps.0, inl refl)
    by_role Ask asks =
        let turned : Turned r (pass (ImportEnd k h) Request ∷ past) =
        subst (λ (way : Direction). Turned r (pass (ImportEnd k h) way ∷ past)) (ap way_put asks) keeps.1 in
        let (n, up) = asked_within r past k h c turned there asks in (n, up, inr asks)

pub comes_so : (past own : List Pass) (a b : End) (way : Direction) → is_open own b ≡ is_open past a → ComesInTurn past a way → ComesInTurn own b way
comes_so past own a b Request same turn = same ∙ turn
comes_so past own a b Answer same turn = same ∙ turn

-- the number of an import's handshake among all
pub whole_index : (is : List Imported) (n i h : ℕ) (c : Contact) → slice_get (contacts_of_import (slice_get is i)) h ≡ Some c
    → (k : ℕ) × (k < width is) × (whole_end n is k ≡ ImportEnd (n + i) h)
whole_index [] n i h c there = absurd (none-some c there)
whole_index (x ∷ xs) n zero h c there =
    let low : h < count x.ty = slice_get_within (contacts_of x.ty) h c there in
    let test : nat_lt h (count x.ty) ≡ true = grind (arith, low) in
    let same : n ≡ n + 0 = omega arith in
    (h, omega (arith, low), ap (λ (b : Bool). if b then ImportEnd n h else whole_end (suc n) xs (h - count x.ty)) test ∙ ap (λ (m : ℕ). ImportEnd m h) same)
whole_index (x ∷ xs) n (suc i) h c there =
    let (k, low, at) = whole_index xs (suc n) i h c there in
    let past : nat_lt (count x.ty + k) (count x.ty) ≡ false = grind (arith, nat_tests) in
    let less : count x.ty + k - count x.ty ≡ k = omega arith in
    let same : suc n + i ≡ n + suc i = omega arith in (
      count x.ty + k,
      omega (arith, low),
      ap (λ (b : Bool). if b then ImportEnd n (count x.ty + k) else whole_end (suc n) xs (count x.ty + k - count x.ty)) past
          ∙ (ap (whole_end (suc n) xs) less ∙ (at ∙ ap (λ (m : ℕ). ImportEnd m h) same)),
    )

-- where the result is closed so are the imports
pub import_shut : (p : Plan) → IsDone p.outcome → (past : List Pass) → Turned p past → is_open past (ResultEnd 0) ≡ false → (i h : ℕ) (c : Contact)
    → contact_at p (ImportEnd i h) ≡ Some c → is_open past (ImportEnd i h) ≡ false
import_shut p done past turned shut i h c there = by_test (is_open past (ImportEnd i h)) refl
  where
    by_test : (b : Bool) → is_open past (ImportEnd i h) ≡ b → b ≡ false
    by_test false t = refl
    by_test true t =
        let (k, low, at) = whole_index p.imports 0 i h c there in
        let zero_plus : 0 + i ≡ i = omega arith in
        let up : is_open past (whole_end 0 p.imports k) ≡ true = ap (is_open past) (at ∙ ap (λ (m : ℕ). ImportEnd m h) zero_plus) ∙ t in
        let below = width_small p.imports p.outcome done in
        let some = there_some (count (whole_type p.imports p.outcome)) (λ m. is_open past (whole_end 0 p.imports m)) k (omega (arith, low, below)) up in
        let result = result_open p.imports p.outcome done (λ m. is_open past (whole_end 0 p.imports m)) turned some in
        sym (sym (ap (is_open past) (result_end 0 p.imports)) ∙ result) ∙ shut

pub import_result : (p : Plan) → IsDone p.outcome → (past : List Pass) → Turned p past → (i h : ℕ) (c : Contact) → contact_at p (ImportEnd i h) ≡ Some c
    → is_open past (ImportEnd i h) ≡ true → is_open past (ResultEnd 0) ≡ true
import_result p done past turned i h c there up = by_test (is_open past (ResultEnd 0)) refl
  where
    by_test : (b : Bool) → is_open past (ResultEnd 0) ≡ b → b ≡ true
    by_test true t = refl
    by_test false t = sym (import_shut p done past turned t i h c there) ∙ up

-- turns of a list with one element more in front
pub turns_before : (p : Plan) (past : List Pass) (y : Element) (ys : List Element) → InputsKeepTurns p past (y ∷ []) → InputsKeepTurns p (after p y past) ys
    → InputsKeepTurns p past (y ∷ ys)
turns_before p past (Fire i t) ys one others = others
turns_before p past (Out e v) ys one others = others
turns_before p past (In e v) ys one others = (one.0, others)

-- A region keeps its turns where the whole does: its result is open, and no other has one of its imports.
pub region_turned : (r : Plan) (f : Cut) (c : Plan) (has : HasPorts r f c) → IsDone c.outcome → (own past : List Pass) → AreFollowed r f c own past
    → ((i h k : ℕ) → Meets r f c i h → f.outer (ImportEnd i h) ≡ ImportEnd k h → (n : ℕ) → is_open past (ImportEnd k n) ≡ true
    → (j : ℕ) × Meets r f c j n × (f.outer (ImportEnd j n) ≡ ImportEnd k n))
    → is_open own (ResultEnd 0) ≡ true → Turned r past → Turned c own
region_turned r f c has done own past followed only result turned = imports_turned c done own kept (λ i h up. result)
  where
    kept : (i h : ℕ) (x : Imported) → slice_get c.imports i ≡ Some x → is_open own (ImportEnd i h) ≡ true → KeepsTurnsOf x.ty (λ n. is_open own (ImportEnd i n))
    kept i h x is up =
        let meets = followed.met i h up in
        let (k, at, same) = met_at r f c has i h meets in
        subst (KeepsTurnsOf x.ty) (λ l n. sym (alike r f c has own past followed i h k meets at (only i h k meets at) n) l) (import_kept r past turned k x (same ∙ is))
