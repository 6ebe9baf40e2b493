-- What is open at the ports of an access' plan keeps its turns exactly where it does at the ports of its sides, and the array asks
-- for the index within an access alone.
use Rattle.std.specs.Prelude.{◌≡◌, ℕ, zero, suc, ◌<◌, Bool, true, false, ◌&&◌, ◌||◌, List, [], ◌∷◌, Some, slice_get}
use Rattle.std.proofs.Common.{refl, sym, ◌∙◌, ap, subst, arith, inl, inr}
use Rattle.std.proofs.lemmas.Option.{none-some, same_Some}
use Rattle.gos_types.specs.Events.{Direction}
use Rattle.gos_types.specs.Types.{Type', Exp, Var, Fun, IsDone}
use Rattle.gos_model.specs.Terms.{Name}
use Rattle.gos_model.specs.Typing.{Imported}
use Rattle.gos_plan.specs.Plans.{End, ImportEnd, ResultEnd, Plan}
use Rattle.gos_realises.specs.realises.Regular.{Pass, pass, is_open, count, some_open, KeepsTurnsOf}
use Rattle.gos_realises.proofs.joined.ReachLemmas.{told_end}
use Rattle.gos_realises.proofs.realises.GroundTurnLemmas.{some_there, there_some, first_open, done_kept}
use Rattle.gos_realises.proofs.realises.PassLemmas.{open_itself, open_otherwise}
use Rattle.gos_joining.specs.webs.Cutting.{Cut}
use Rattle.gos_supplies.specs.names.Names.{imported}
use Rattle.gos_supplies.specs.arrays.Made.{IsAccess}
use Rattle.gos_supplies.proofs.turns.GoesLemmas.{IsTurned}
use Rattle.gos_supplies.proofs.turns.TurnedLemmas.{imp, res, to_each, from_each}

-- What is open at the ports of the whole is what is open where they stand for ports of the sides.
pub record Alike (past own index : List Pass) : Type 0 where
  pub access : (h : ℕ) → is_open past (ImportEnd 0 (suc h)) ≡ is_open own (ImportEnd 0 h)
  pub result : (h : ℕ) → is_open past (ResultEnd h) ≡ is_open own (ResultEnd h)
  pub asked : is_open past (ImportEnd 0 0) ≡ is_open index (ResultEnd 0)
  pub others : (j h : ℕ) → is_open past (ImportEnd (suc j) h) ≡ is_open index (ImportEnd j h)

pub alike_first : Alike [] [] []
alike_first = record { access = λ h. refl; result = λ h. refl; asked = refl; others = λ j h. refl }

-- where something passes
both_pass : (e d a b : End) (way : Direction) (past own : List Pass) → (a ≡ b → e ≡ d) → (e ≡ d → a ≡ b)
    → is_open past b ≡ is_open own d → is_open (pass a way ∷ past) b ≡ is_open (pass e way ∷ own) d
both_pass e d a b way past own from to same =
    elim (told_end e d) [
      | inl one ↦ ap (λ (z : End). is_open (pass z way ∷ past) b) (to one) ∙ (open_itself b way past ∙ sym (ap (λ (z : End). is_open (pass z way ∷ own) d) one ∙ open_itself d way own))
      | inr apart ↦ open_otherwise a b way past (λ one. apart (from one)) ∙ (same ∙ sym (open_otherwise e d way own apart))
    ]

pub pass_access : (h : ℕ) (way : Direction) (past own index : List Pass) → Alike past own index
    → Alike (pass (ImportEnd 0 (suc h)) way ∷ past) (pass (ImportEnd 0 h) way ∷ own) index
pass_access h way past own index so =
    record {
      access = λ g. both_pass (ImportEnd 0 h) (ImportEnd 0 g) (ImportEnd 0 (suc h)) (ImportEnd 0 (suc g)) way past own
          (λ e. (let n : h ≡ g = cc e in ap (ImportEnd 0) n)) (λ e. (let n : h ≡ g = cc e in ap (λ (k : ℕ). ImportEnd 0 (suc k)) n)) (so.access g);
      result = λ g. open_otherwise (ImportEnd 0 (suc h)) (ResultEnd g) way past (λ e. cc e) ∙ (so.result g ∙ sym (open_otherwise (ImportEnd 0 h) (ResultEnd g) way own (λ e. cc e)));
      asked = open_otherwise (ImportEnd 0 (suc h)) (ImportEnd 0 0) way past (λ e. (let n : suc h ≡ 0 = cc e in omega (arith, n))) ∙ so.asked;
      others = λ j g. open_otherwise (ImportEnd 0 (suc h)) (ImportEnd (suc j) g) way past (λ e. (let n : 0 ≡ suc j = cc e in omega (arith, n))) ∙ so.others j g;
    }

pub pass_result : (h : ℕ) (way : Direction) (past own index : List Pass) → Alike past own index
    → Alike (pass (ResultEnd h) way ∷ past) (pass (ResultEnd h) way ∷ own) index
pass_result h way past own index so =
    record {
      access = λ g. open_otherwise (ResultEnd h) (ImportEnd 0 (suc g)) way past (λ e. cc e) ∙ (so.access g ∙ sym (open_otherwise (ResultEnd h) (ImportEnd 0 g) way own (λ e. cc e)));
      result = λ g. both_pass (ResultEnd h) (ResultEnd g) (ResultEnd h) (ResultEnd g) way past own (λ e. e) (λ e. e) (so.result g);
      asked = open_otherwise (ResultEnd h) (ImportEnd 0 0) way past (λ e. cc e) ∙ so.asked;
      others = λ j g. open_otherwise (ResultEnd h) (ImportEnd (suc j) g) way past (λ e. cc e) ∙ so.others j g;
    }

pub pass_asked : (way : Direction) (past own index : List Pass) → Alike past own index
    → Alike (pass (ImportEnd 0 0) way ∷ past) own (pass (ResultEnd 0) way ∷ index)
pass_asked way past own index so =
    record {
      access = λ g. open_otherwise (ImportEnd 0 0) (ImportEnd 0 (suc g)) way past (λ e. (let n : 0 ≡ suc g = cc e in omega (arith, n))) ∙ so.access g;
      result = λ g. open_otherwise (ImportEnd 0 0) (ResultEnd g) way past (λ e. cc e) ∙ so.result g;
      asked = open_itself (ImportEnd 0 0) way past ∙ sym (open_itself (ResultEnd 0) way index);
      others = λ j g. open_otherwise (ImportEnd 0 0) (ImportEnd (suc j) g) way past (λ e. (let n : 0 ≡ suc j = cc e in omega (arith, n)))
          ∙ (so.others j g ∙ sym (open_otherwise (ResultEnd 0) (ImportEnd j g) way index (λ e. cc e)));
    }

pub pass_other : (k h : ℕ) (way : Direction) (past own index : List Pass) → Alike past own index
    → Alike (pass (ImportEnd (suc k) h) way ∷ past) own (pass (ImportEnd k h) way ∷ index)
pass_other k h way past own index so =
    record {
      access = λ g. open_otherwise (ImportEnd (suc k) h) (ImportEnd 0 (suc g)) way past (λ e. (let n : suc k ≡ 0 = cc e in omega (arith, n))) ∙ so.access g;
      result = λ g. open_otherwise (ImportEnd (suc k) h) (ResultEnd g) way past (λ e. cc e) ∙ so.result g;
      asked = open_otherwise (ImportEnd (suc k) h) (ImportEnd 0 0) way past (λ e. (let n : suc k ≡ 0 = cc e in omega (arith, n)))
          ∙ (so.asked ∙ sym (open_otherwise (ImportEnd k h) (ResultEnd 0) way index (λ e. cc e)));
      others = λ j g. both_pass (ImportEnd k h) (ImportEnd j g) (ImportEnd (suc k) h) (ImportEnd (suc j) g) way past index
          (λ e. (let m : suc k ≡ suc j = cc e in let n : h ≡ g = cc e in let l : k ≡ j = omega (arith, m) in λ z. ImportEnd (l z) (n z)))
          (λ e. (let m : k ≡ j = cc e in let n : h ≡ g = cc e in λ z. ImportEnd (suc (m z)) (n z))) (so.others j g);
    }

-- the index is asked for within a read or a write
abbrev pub Within : List Pass → Type 0
Within past = is_open past (ImportEnd 0 0) ≡ true → (is_open past (ImportEnd 0 1) || is_open past (ImportEnd 0 2)) ≡ true

either_way : (b c : Bool) → (b || c) ≡ true → (c || (b || false)) ≡ true
either_way true true h = refl
either_way true false h = refl
either_way false true h = refl
either_way false false h = absurd (cc h)

either_back : (b c : Bool) → (c || (b || false)) ≡ true → (b || c) ≡ true
either_back true c h = refl
either_back false true h = refl
either_back false false h = absurd (cc h)

module _ (i w : ℕ) (x : Name) (f g : Cut) (r p q : Plan) (is : IsAccess i w x f g r p q) (done : IsDone p.outcome) where
  all_there : (m : ℕ) (y : Imported) → slice_get r.imports m ≡ Some y → slice_get (imported x (Fun (Exp i) (Var w)) ∷ q.imports) m ≡ Some y
  all_there m y at = sym (ap (λ (us : List Imported). slice_get us m) is.imports) ∙ at

  variable_there : slice_get p.imports 0 ≡ Some (imported x (Var w))
  variable_there = ap (λ (us : List Imported). slice_get us 0) is.variable

  module _ (past own index : List Pass) (so : Alike past own index) where
    results_alike : res past ≡ res own
    results_alike = λ z h. so.result h z

    accesses_alike : (λ (h : ℕ). imp past 0 (suc h)) ≡ imp own 0
    accesses_alike = λ z h. so.access h z

    others_alike : (j : ℕ) → imp past (suc j) ≡ imp index j
    others_alike j = λ z h. so.others j h z

    -- the result of the whole is busy where that of its own plan is
    busy_there : some_open (count p.outcome) (res own) ≡ true → some_open (count r.outcome) (res past) ≡ true
    busy_there busy = (λ z. some_open (count (is.outcome z)) (results_alike z)) ∙ busy

    busy_back : some_open (count r.outcome) (res past) ≡ true → some_open (count p.outcome) (res own) ≡ true
    busy_back busy = sym (λ z. some_open (count (is.outcome z)) (results_alike z)) ∙ busy

    pub whole_turned : IsTurned p own → IsTurned q index → Within past → IsTurned r past
    whole_turned own_turned index_turned within = from_each r past (each, done_kept r.outcome (subst IsDone (sym is.outcome) done) (res past))
      where
        of_variable : KeepsTurnsOf (Var w) (imp own 0) × (some_open 2 (imp own 0) ≡ true → some_open (count p.outcome) (res own) ≡ true)
        of_variable = (to_each p own own_turned).0 0 (imported x (Var w)) variable_there

        -- an open access has an open result
        led : (is_open past (ImportEnd 0 1) || is_open past (ImportEnd 0 2)) ≡ true → some_open (count r.outcome) (res past) ≡ true
        led up =
            busy_there (of_variable.1 (either_way (imp own 0 0) (imp own 0 1) (sym (λ z. so.access 0 z || so.access 1 z) ∙ up)))

        busy : some_open 3 (imp past 0) ≡ true → some_open (count r.outcome) (res past) ≡ true
        busy some = by_shake (some_there 3 (imp past 0) some)
          where
            or_first : (b c : Bool) → b ≡ true → (b || c) ≡ true
            or_first true c e = refl
            or_first false c e = absurd (cc e)

            or_second : (b c : Bool) → c ≡ true → (b || c) ≡ true
            or_second true c e = refl
            or_second false c e = e

            by_shake : (k : ℕ) × (k < 3) × (imp past 0 k ≡ true) → some_open (count r.outcome) (res past) ≡ true
            by_shake (zero, low, up) = led (within up)
            by_shake (suc zero, low, up) = led (or_first (is_open past (ImportEnd 0 1)) (is_open past (ImportEnd 0 2)) up)
            by_shake (suc (suc zero), low, up) = led (or_second (is_open past (ImportEnd 0 1)) (is_open past (ImportEnd 0 2)) up)
            by_shake (suc (suc (suc k)), low, up) = absurd (omega (arith, low))

        each : (m : ℕ) (y : Imported) → slice_get r.imports m ≡ Some y
            → KeepsTurnsOf y.ty (imp past m) × (some_open (count y.ty) (imp past m) ≡ true → some_open (count r.outcome) (res past) ≡ true)
        each m y at = by_number m y (all_there m y at)
          where
            by_number : (m : ℕ) (y : Imported) → slice_get (imported x (Fun (Exp i) (Var w)) ∷ q.imports) m ≡ Some y
                → KeepsTurnsOf y.ty (imp past m) × (some_open (count y.ty) (imp past m) ≡ true → some_open (count r.outcome) (res past) ≡ true)
            by_number zero y at =
                let same : imported x (Fun (Exp i) (Var w)) ≡ y = same_Some (imported x (Fun (Exp i) (Var w))) y at in
                subst (λ (z : Imported). KeepsTurnsOf z.ty (imp past 0) × (some_open (count z.ty) (imp past 0) ≡ true → some_open (count r.outcome) (res past) ≡ true)) same (
                  (
                    tt,
                    (λ z. so.access 0 z && so.access 1 z) ∙ of_variable.0,
                    λ up. either_way (imp past 0 1) (imp past 0 2) (within (first_open (imp past 0) up)),
                  ),
                  busy,
                )
            by_number (suc j) y at =
                let here = (to_each q index index_turned).0 j y at in (
                  subst (KeepsTurnsOf y.ty) (sym (others_alike j)) here.0,
                  λ up. (let asks = here.1 (sym (ap (some_open (count y.ty)) (others_alike j)) ∙ up) in
                      let first = first_open (res index) (sym (ap (λ (t : Type'). some_open (count t) (res index)) is.number) ∙ asks) in
                      led (within (so.asked ∙ first))),
                )

    array_turns : IsTurned r past → KeepsTurnsOf (Fun (Exp i) (Var w)) (imp past 0) × (some_open 3 (imp past 0) ≡ true → some_open (count r.outcome) (res past) ≡ true)
    array_turns turned =
        (to_each r past turned).0 0 (imported x (Fun (Exp i) (Var w))) (ap (λ (us : List Imported). slice_get us 0) is.imports)

    pub own_turned : IsTurned r past → IsTurned p own
    own_turned turned = from_each p own (each, done_kept p.outcome done (res own))
      where
        more : some_open 2 (imp own 0) ≡ true → some_open 3 (imp past 0) ≡ true
        more some = by_shake (some_there 2 (imp own 0) some)
          where
            by_shake : (k : ℕ) × (k < 2) × (imp own 0 k ≡ true) → some_open 3 (imp past 0) ≡ true
            by_shake (k, low, up) = there_some 3 (imp past 0) (suc k) (omega (arith, low)) (so.access k ∙ up)

        each : (m : ℕ) (y : Imported) → slice_get p.imports m ≡ Some y
            → KeepsTurnsOf y.ty (imp own m) × (some_open (count y.ty) (imp own m) ≡ true → some_open (count p.outcome) (res own) ≡ true)
        each m y at = by_number m y (sym (ap (λ (us : List Imported). slice_get us m) is.variable) ∙ at)
          where
            by_number : (m : ℕ) (y : Imported) → slice_get (imported x (Var w) ∷ []) m ≡ Some y
                → KeepsTurnsOf y.ty (imp own m) × (some_open (count y.ty) (imp own m) ≡ true → some_open (count p.outcome) (res own) ≡ true)
            by_number zero y at =
                let same : imported x (Var w) ≡ y = same_Some (imported x (Var w)) y at in
                subst (λ (z : Imported). KeepsTurnsOf z.ty (imp own 0) × (some_open (count z.ty) (imp own 0) ≡ true → some_open (count p.outcome) (res own) ≡ true)) same
                (sym (λ z. so.access 0 z && so.access 1 z) ∙ (array_turns turned).0.1, λ up. busy_back ((array_turns turned).1 (more up)))
            by_number (suc m) y at = absurd (none-some y at)

    pub within_turned : IsTurned r past → Within past
    within_turned turned up =
        either_back (is_open past (ImportEnd 0 1)) (is_open past (ImportEnd 0 2)) ((array_turns turned).0.2 (there_some 1 (imp past 0) 0 (omega arith) up))

    pub other_turned : IsTurned r past → (j : ℕ) (y : Imported) → slice_get q.imports j ≡ Some y → KeepsTurnsOf y.ty (imp index j)
    other_turned turned j y at =
        subst (KeepsTurnsOf y.ty) (others_alike j)
        ((to_each r past turned).0 (suc j) y (ap (λ (us : List Imported). slice_get us (suc j)) is.imports ∙ at)).0
