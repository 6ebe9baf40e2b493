-- A variable's plan that is read, joined in two ways: to a Deref, and to the plan of a function of a variable that has the Deref.
use Rattle.std.specs.Prelude.{ℕ, zero, suc, ◌+◌, ◌-◌, ◌<◌, Bool, true, false, ◌||◌, List, Option, Some, None, All, Contains, slice_get, nat_eq, nat_lt, length, map, if◌then◌else◌}
use Rattle.std.proofs.Common.{◌≡◌, [], ◌∷◌, ◌++◌, ◌⊎◌, inl, inr, refl, sym, ◌∙◌, ap, subst, arith}
use Rattle.std.proofs.lemmas.List.Elements.{All-cons}
use Rattle.gos_types.specs.Types.{Type', Exp, Var, Fun}
use Rattle.gos_types.proofs.BoolLemmas.{and_false}
use Rattle.gos_plan.specs.Kinds as kinds
use Rattle.gos_plan.specs.Kinds.{Contact, contacts_of}
use Rattle.gos_plan.specs.Plans.{End, PartEnd, ImportEnd, ResultEnd, Joint, Plan, IsRight, contact_at, turned_if}
use Rattle.gos_plan.specs.Tokens.{IsPortEnd}
use Rattle.gos_plan.specs.TokenBits.{LiteralFits}
use Rattle.gos_plan.specs.Joining.{Place, place, Link, Wiring, LeftImport, JoinedWithin, Linked, Path, is_joined, all_left, left_place, origin, IsJoining}
use Rattle.gos_realises.specs.realises.Regular.{Pass, is_open, count, IsRegular}
use Rattle.gos_realises.specs.realises.Links.{LinkFits, StandsIn, LinksFit, IsJoined}
use Rattle.gos_realises.specs.realises.Wirings.{lone, link, reading}
use Rattle.gos_realises.proofs.realises.LiteralLemmas.{no_literals}
use Rattle.gos_realises.proofs.realises.LeftLemmas.{left_all}
use Rattle.gos_realises.proofs.joined.ReachLemmas.{Paths, paths_then}
use Rattle.gos_joining.specs.webs.Webs.{joint}
use Rattle.gos_supplies.specs.applications.Opened.{opened, IsFunctionOf}
use Rattle.gos_supplies.specs.names.Names.{imported}
use Rattle.gos_supplies.proofs.names.ReadingLemmas.{read_plan}
use Rattle.gos_supplies.proofs.names.ReadLemmas.{read_is_regular, read_is_idle}
use Rattle.gos_supplies.specs.turns.Rests.{Rests}
use Rattle.gos_supplies.proofs.turns.RestLemmas.{passes_are}
use Rattle.gos_supplies.proofs.turns.OpenedLemmas.{function_is_regular, function_rests}
use Rattle.gos_supplies.proofs.turns.TrailLemmas.{LinksArePorts}
use Rattle.gos_supplies.proofs.turns.TurnedLemmas.{res, fun_busy}
use Rattle.gos_supplies.proofs.turns.PassLemmas.{StandsForImport, StandsForArgument, IsPair, Composes, passes_turns}
use Rattle.gos_supplies.proofs.turns.ApplyLemmas.{fun_turns, in_rest}
use Rattle.gos_supplies.proofs.turns.WholeLemmas.{joining_is_regular}
use Rattle.gos_supplies.proofs.turns.JoinedRestLemmas.{joining_rests}
use Rattle.gos_terms.specs.leaves.Readings.{ReadingIsRegular}

-- a Deref as the plan of a function of a variable
abbrev deref_function : ℕ → Plan
deref_function w =
    record {
      weight = 0;
      imports = [];
      outcome = Fun (Var w) (Exp w);
      parts = kinds.Deref w ∷ [];
      joints = joint (ResultEnd 2) (PartEnd 0 1) ∷ joint (PartEnd 0 0) (ResultEnd 0) ∷ [];
    }

deref_right : (w : ℕ) → IsRight (deref_function w)
deref_right w = (((0, w, refl, refl), refl, refl), (((0, w, refl, refl), refl, refl), tt))

read_right : (w : ℕ) → IsRight (read_plan [] w)
read_right w = (((0, w, refl, refl), refl, refl), (((0, w, refl, refl), refl, refl), tt))

-- its body reads an import
deref_opened : (w : ℕ) → IsFunctionOf (imported [] (Var w)) (deref_function w) (read_plan [] w)
deref_opened w =
    record {
      right = deref_right w;
      body_right = read_right w;
      parts = refl;
      imports = refl;
      outcome = refl;
      joints = joints;
      no_more = no_more;
    }
  where
    joints : (a b : End) → Contains (deref_function w).joints (joint a b) → Contains (read_plan [] w).joints (joint (opened 0 2 a) (opened 0 2 b))
    joints a b (zero, small, e) =
        let same : joint (ResultEnd 2) (PartEnd 0 1) ≡ joint a b = cc e in
        subst (λ (j : Joint). Contains (read_plan [] w).joints (joint (opened 0 2 j.asking) (opened 0 2 j.serving))) same (0, omega arith, refl)
    joints a b (suc zero, small, e) =
        let same : joint (PartEnd 0 0) (ResultEnd 0) ≡ joint a b = cc e in
        subst (λ (j : Joint). Contains (read_plan [] w).joints (joint (opened 0 2 j.asking) (opened 0 2 j.serving))) same (1, omega arith, refl)
    joints a b (suc (suc k), small, e) = absurd (omega (arith, small))

    no_more : (a b : End) → Contains (read_plan [] w).joints (joint a b)
        → (c d : End) × Contains (deref_function w).joints (joint c d) × (opened 0 2 c ≡ a) × (opened 0 2 d ≡ b)
    no_more a b (zero, small, e) =
        let same : joint (ResultEnd 0) (PartEnd 0 1) ≡ joint a b = cc e in
        (ResultEnd 2, PartEnd 0 1, (0, omega arith, refl), ap (λ (j : Joint). j.asking) same, ap (λ (j : Joint). j.serving) same)
    no_more a b (suc zero, small, e) =
        let same : joint (PartEnd 0 0) (ImportEnd 0 0) ≡ joint a b = cc e in
        (PartEnd 0 0, ResultEnd 0, (1, omega arith, refl), ap (λ (j : Joint). j.asking) same, ap (λ (j : Joint). j.serving) same)
    no_more a b (suc (suc k), small, e) = absurd (omega (arith, small))

deref_regular : (w : ℕ) → IsRegular (deref_function w)
deref_regular w = (function_is_regular (imported [] (Var w)) (deref_function w) (read_plan [] w) (deref_opened w)).0 (read_is_regular [] w)

read_rests : (w : ℕ) → Rests (read_plan [] w)
read_rests w s t xs idle runs keeps shut =
    read_is_idle [] w s t xs idle runs keeps (ap (λ (past : List Pass). is_open past (ResultEnd 0)) (sym (passes_are (read_plan [] w) [] xs)) ∙ shut (ResultEnd 0))

deref_rests : (w : ℕ) → Rests (deref_function w)
deref_rests w = (function_rests (imported [] (Var w)) (deref_function w) (read_plan [] w) (deref_opened w)).0 (read_rests w)

-- the function with its argument, which comes first
abbrev handing_links : List Link
handing_links = link 0 (ResultEnd 0) 1 (ResultEnd 0) ∷ link 0 (ResultEnd 1) 1 (ResultEnd 1) ∷ []

abbrev handing : ℕ → Plan → Wiring
handing w p =
    record { plans = p ∷ deref_function w ∷ []; links = handing_links; giver = 1; skipped = 2; outcome = Exp w }

abbrev reading_link : Link
reading_link = link 0 (ResultEnd 0) 1 (PartEnd 0 0)

read_free : (k i : ℕ) → is_joined (reading_link ∷ []) k i ≡ false
read_free k i = let one = and_false (nat_eq 0 k) in let other = and_false (nat_eq 1 k) in λ j. (one j || other j) || false

hand_free : (k i : ℕ) → is_joined handing_links k i ≡ false
hand_free k i =
    let one = and_false (nat_eq 0 k) in let other = and_false (nat_eq 1 k) in λ j. (one j || other j) || ((one j || other j) || false)

-- Places of the one joining in the other
abbrev on_giver : End → End
on_giver (PartEnd i h) = PartEnd i h
on_giver (ImportEnd i h) = ImportEnd i h
on_giver (ResultEnd h) = ResultEnd (suc (suc h))

abbrev forth_at : ℕ → End → Place
forth_at zero e = place 0 e
forth_at (suc zero) e = place 1 (on_giver e)
forth_at (suc (suc k)) e = place (suc (suc k)) e

abbrev forth : Place → Place
forth a = forth_at a.plan a.end

abbrev off_giver : End → Place
off_giver (PartEnd i h) = place 1 (PartEnd i h)
off_giver (ImportEnd i h) = place 1 (ImportEnd i h)
off_giver (ResultEnd zero) = place 1 (PartEnd 0 0)
off_giver (ResultEnd (suc zero)) = place 0 (ResultEnd 1)
off_giver (ResultEnd (suc (suc h))) = place 1 (ResultEnd h)

abbrev back_at : ℕ → End → Place
back_at zero e = place 0 e
back_at (suc zero) e = off_giver e
back_at (suc (suc k)) e = place (suc (suc k)) e

abbrev back : Place → Place
back a = back_at a.plan a.end

import_stays : (k i h : ℕ) → forth_at k (ImportEnd i h) ≡ place k (ImportEnd i h)
import_stays zero i h = refl
import_stays (suc zero) i h = refl
import_stays (suc (suc k)) i h = refl

returns_at : (k : ℕ) (e : End) → back (forth_at k e) ≡ place k e
returns_at zero e = refl
returns_at (suc zero) (PartEnd i h) = refl
returns_at (suc zero) (ImportEnd i h) = refl
returns_at (suc zero) (ResultEnd h) = refl
returns_at (suc (suc k)) e = refl

numbers_apart : zero ≡ suc zero → ⊥
numbers_apart e = omega (arith, e)

plans_apart : (d e : End) → place 0 d ≡ place 1 e → ⊥
plans_apart d e same = numbers_apart (ap (λ (x : Place). x.plan) same)

module _ (w : ℕ) (p : Plan) (p_type : p.outcome ≡ Var w) where
  left_same : all_left (reading w p) ≡ all_left (handing w p)
  left_same =
      ap (λ (ls : List LeftImport). ls ++ []) (left_all (reading_link ∷ []) 0 (read_free 0) 0 p.imports ∙ sym (left_all handing_links 0 (hand_free 0) 0 p.imports))

  origin_there : (e : End) → origin (handing w p) e ≡ forth (origin (reading w p) e)
  origin_there (PartEnd i h) = by_test (nat_lt i (length p.parts)) (nat_lt (i - length p.parts) 1)
    where
      by_test : (a b : Bool)
          → (if a then place 0 (PartEnd i h) else (if b then place 1 (PartEnd (i - length p.parts) h) else place 2 (PartEnd (i - length p.parts - 1) h)))
          ≡ forth (if a then place 0 (PartEnd i h) else (if b then place 1 (PartEnd (i - length p.parts) h) else place 2 (PartEnd (i - length p.parts - 1) h)))
      by_test true b = refl
      by_test false true = refl
      by_test false false = refl
  origin_there (ImportEnd i h) = ap (λ (ls : List LeftImport). left_place (slice_get ls i) h) (sym left_same) ∙ by_left (slice_get (all_left (reading w p)) i)
    where
      by_left : (o : Option LeftImport) → left_place o h ≡ forth (left_place o h)
      by_left None = refl
      by_left (Some l) = sym (import_stays l.plan l.number h)
  origin_there (ResultEnd h) = let one : 2 + h ≡ suc (suc (0 + h)) = omega arith in ap (λ (n : ℕ). place 1 (ResultEnd n)) one

  origin_back : (e : End) → back (origin (handing w p) e) ≡ origin (reading w p) e
  origin_back e = ap back (origin_there e) ∙ returns_at (origin (reading w p) e).plan (origin (reading w p) e).end

  -- steps of the reading
  abbrev Hands : Place → Place → Type 0
  Hands a b = Paths (handing w p) a b

  abbrev Reads : Place → Place → Type 0
  Reads a b = Paths (reading w p) a b

  hands_at : (a b c d : Place) → a ≡ c → b ≡ d → Hands c d → Hands a b
  hands_at a b c d e f path = subst (λ (x : Place). Hands x b) (sym e) (subst (Hands c) (sym f) path)

  reads_at : (a b c d : Place) → a ≡ c → b ≡ d → Reads c d → Reads a b
  reads_at a b c d e f path = subst (λ (x : Place). Reads x b) (sym e) (subst (Reads c) (sym f) path)

  hand_step : (a b : Place) → JoinedWithin (handing w p) a b ⊎ Linked (handing w p) a b → Hands a b
  hand_step a b s = (1, (b, s, refl))

  read_step : (a b : Place) → JoinedWithin (reading w p) a b ⊎ Linked (reading w p) a b → Reads a b
  read_step a b s = (1, (b, s, refl))

  abbrev runs_there : JoinedWithin (handing w p) (place 1 (ResultEnd 2)) (place 1 (PartEnd 0 1))
  runs_there = (deref_function w, joint (ResultEnd 2) (PartEnd 0 1), refl, refl, (0, omega arith, refl), inl (refl, refl))

  abbrev runs_back : JoinedWithin (handing w p) (place 1 (PartEnd 0 1)) (place 1 (ResultEnd 2))
  runs_back = (deref_function w, joint (ResultEnd 2) (PartEnd 0 1), refl, refl, (0, omega arith, refl), inr (refl, refl))

  abbrev asks_there : JoinedWithin (handing w p) (place 1 (PartEnd 0 0)) (place 1 (ResultEnd 0))
  asks_there = (deref_function w, joint (PartEnd 0 0) (ResultEnd 0), refl, refl, (1, omega arith, refl), inl (refl, refl))

  abbrev asks_back : JoinedWithin (handing w p) (place 1 (ResultEnd 0)) (place 1 (PartEnd 0 0))
  asks_back = (deref_function w, joint (PartEnd 0 0) (ResultEnd 0), refl, refl, (1, omega arith, refl), inr (refl, refl))

  abbrev gives_there : Linked (handing w p) (place 0 (ResultEnd 0)) (place 1 (ResultEnd 0))
  gives_there = (link 0 (ResultEnd 0) 1 (ResultEnd 0), (0, omega arith, refl), inl (refl, refl))

  abbrev gives_back : Linked (handing w p) (place 1 (ResultEnd 0)) (place 0 (ResultEnd 0))
  gives_back = (link 0 (ResultEnd 0) 1 (ResultEnd 0), (0, omega arith, refl), inr (refl, refl))

  abbrev At : End → End → End → End → Type 0
  At d e a b = ((d ≡ a) × (e ≡ b)) ⊎ ((d ≡ b) × (e ≡ a))

  within_there : (k l : ℕ) (d e : End) → JoinedWithin (reading w p) (place k d) (place l e) → Hands (forth_at k d) (forth_at l e)
  within_there zero zero d e (q, j, same, is, has, ways) = hand_step (place 0 d) (place 0 e) (inl (q, j, refl, is, has, ways))
  within_there zero (suc l) d e (q, j, same, is, has, ways) = absurd (cc same)
  within_there (suc zero) zero d e (q, j, same, is, has, ways) = absurd (cc same)
  within_there (suc zero) (suc (suc l)) d e (q, j, same, is, has, ways) = absurd (cc same)
  within_there (suc (suc k)) l d e (q, j, same, is, has, ways) = absurd (cc is)
  within_there (suc zero) (suc zero) d e (q, j, same, is, has, ways) =
      let lone_is : lone (kinds.Deref w) 1 (Exp w) ≡ q = cc is in
      by_joint j (subst (λ (x : Plan). Contains x.joints j) (sym lone_is) has) ways
    where
      of_ways : At d e (ResultEnd 0) (PartEnd 0 1) → Hands (forth_at 1 d) (forth_at 1 e)
      of_ways (inl (x, y)) =
          hands_at (forth_at 1 d) (forth_at 1 e) (place 1 (ResultEnd 2)) (place 1 (PartEnd 0 1)) (ap (forth_at 1) x) (ap (forth_at 1) y)
          (hand_step (place 1 (ResultEnd 2)) (place 1 (PartEnd 0 1)) (inl runs_there))
      of_ways (inr (x, y)) =
          hands_at (forth_at 1 d) (forth_at 1 e) (place 1 (PartEnd 0 1)) (place 1 (ResultEnd 2)) (ap (forth_at 1) x) (ap (forth_at 1) y)
          (hand_step (place 1 (PartEnd 0 1)) (place 1 (ResultEnd 2)) (inl runs_back))

      by_joint : (j : Joint) → Contains (lone (kinds.Deref w) 1 (Exp w)).joints j → At d e j.asking j.serving → Hands (forth_at 1 d) (forth_at 1 e)
      by_joint j (zero, small, at_j) ways =
          let one : joint (ResultEnd 0) (PartEnd 0 1) ≡ j = cc at_j in of_ways (subst (λ (x : Joint). At d e x.asking x.serving) (sym one) ways)
      by_joint j (suc n, small, at_j) ways = absurd (omega (arith, small))

  linked_there : (a b : Place) → Linked (reading w p) a b → Hands (forth a) (forth b)
  linked_there a b (l, (zero, small, is), ways) =
      let one : reading_link ≡ l = cc is in of_ways (subst (λ (x : Link). ((a ≡ x.one) × (b ≡ x.other)) ⊎ ((a ≡ x.other) × (b ≡ x.one))) (sym one) ways)
    where
      of_ways : ((a ≡ place 0 (ResultEnd 0)) × (b ≡ place 1 (PartEnd 0 0))) ⊎ ((a ≡ place 1 (PartEnd 0 0)) × (b ≡ place 0 (ResultEnd 0))) → Hands (forth a) (forth b)
      of_ways (inl (x, y)) =
          hands_at (forth a) (forth b) (place 0 (ResultEnd 0)) (place 1 (PartEnd 0 0)) (ap forth x) (ap forth y)
          (2, (place 1 (ResultEnd 0), inr gives_there, (place 1 (PartEnd 0 0), inl asks_back, refl)))
      of_ways (inr (x, y)) =
          hands_at (forth a) (forth b) (place 1 (PartEnd 0 0)) (place 0 (ResultEnd 0)) (ap forth x) (ap forth y)
          (2, (place 1 (ResultEnd 0), inl asks_there, (place 0 (ResultEnd 0), inr gives_back, refl)))
  linked_there a b (l, (suc n, small, is), ways) = absurd (omega (arith, small))

  path_there : (n : ℕ) (a b : Place) → Path (reading w p) n a b → Hands (forth a) (forth b)
  path_there zero a b e = (0, ap forth e)
  path_there (suc n) a b (c, inl s, path) =
      paths_then (handing w p) (forth a) (forth c) (forth b) (within_there a.plan c.plan a.end c.end s) (path_there n c b path)
  path_there (suc n) a b (c, inr s, path) = paths_then (handing w p) (forth a) (forth c) (forth b) (linked_there a c s) (path_there n c b path)

  -- steps of the other
  within_back : (k l : ℕ) (d e : End) → JoinedWithin (handing w p) (place k d) (place l e) → Reads (back_at k d) (back_at l e)
  within_back zero zero d e (q, j, same, is, has, ways) = read_step (place 0 d) (place 0 e) (inl (q, j, refl, is, has, ways))
  within_back zero (suc l) d e (q, j, same, is, has, ways) = absurd (cc same)
  within_back (suc zero) zero d e (q, j, same, is, has, ways) = absurd (cc same)
  within_back (suc zero) (suc (suc l)) d e (q, j, same, is, has, ways) = absurd (cc same)
  within_back (suc (suc k)) l d e (q, j, same, is, has, ways) = absurd (cc is)
  within_back (suc zero) (suc zero) d e (q, j, same, is, has, ways) =
      let that : deref_function w ≡ q = cc is in by_joint j (subst (λ (x : Plan). Contains x.joints j) (sym that) has) ways
    where
      run : At d e (ResultEnd 2) (PartEnd 0 1) → Reads (off_giver d) (off_giver e)
      run (inl (x, y)) =
          reads_at (off_giver d) (off_giver e) (place 1 (ResultEnd 0)) (place 1 (PartEnd 0 1)) (ap off_giver x) (ap off_giver y)
          (read_step (place 1 (ResultEnd 0)) (place 1 (PartEnd 0 1))
          (inl (lone (kinds.Deref w) 1 (Exp w), joint (ResultEnd 0) (PartEnd 0 1), refl, refl, (0, omega arith, refl), inl (refl, refl))))
      run (inr (x, y)) =
          reads_at (off_giver d) (off_giver e) (place 1 (PartEnd 0 1)) (place 1 (ResultEnd 0)) (ap off_giver x) (ap off_giver y)
          (read_step (place 1 (PartEnd 0 1)) (place 1 (ResultEnd 0))
          (inl (lone (kinds.Deref w) 1 (Exp w), joint (ResultEnd 0) (PartEnd 0 1), refl, refl, (0, omega arith, refl), inr (refl, refl))))

      ask : At d e (PartEnd 0 0) (ResultEnd 0) → Reads (off_giver d) (off_giver e)
      ask (inl (x, y)) = (0, ap off_giver x ∙ sym (ap off_giver y))
      ask (inr (x, y)) = (0, ap off_giver x ∙ sym (ap off_giver y))

      by_joint : (j : Joint) → Contains (deref_function w).joints j → At d e j.asking j.serving → Reads (off_giver d) (off_giver e)
      by_joint j (zero, small, at_j) ways =
          let one : joint (ResultEnd 2) (PartEnd 0 1) ≡ j = cc at_j in run (subst (λ (x : Joint). At d e x.asking x.serving) (sym one) ways)
      by_joint j (suc zero, small, at_j) ways =
          let one : joint (PartEnd 0 0) (ResultEnd 0) ≡ j = cc at_j in ask (subst (λ (x : Joint). At d e x.asking x.serving) (sym one) ways)
      by_joint j (suc (suc n), small, at_j) ways = absurd (omega (arith, small))

  abbrev Ends : Place → Place → Link → Type 0
  Ends a b l = ((a ≡ l.one) × (b ≡ l.other)) ⊎ ((a ≡ l.other) × (b ≡ l.one))

  linked_back : (a b : Place) → Linked (handing w p) a b → Reads (back a) (back b)
  linked_back a b (l, has, ways) = by_link l has ways
    where
      give : Ends a b (link 0 (ResultEnd 0) 1 (ResultEnd 0)) → Reads (back a) (back b)
      give (inl (x, y)) =
          reads_at (back a) (back b) (place 0 (ResultEnd 0)) (place 1 (PartEnd 0 0)) (ap back x) (ap back y)
          (read_step (place 0 (ResultEnd 0)) (place 1 (PartEnd 0 0)) (inr (reading_link, (0, omega arith, refl), inl (refl, refl))))
      give (inr (x, y)) =
          reads_at (back a) (back b) (place 1 (PartEnd 0 0)) (place 0 (ResultEnd 0)) (ap back x) (ap back y)
          (read_step (place 1 (PartEnd 0 0)) (place 0 (ResultEnd 0)) (inr (reading_link, (0, omega arith, refl), inr (refl, refl))))

      write : Ends a b (link 0 (ResultEnd 1) 1 (ResultEnd 1)) → Reads (back a) (back b)
      write (inl (x, y)) = (0, ap back x ∙ sym (ap back y))
      write (inr (x, y)) = (0, ap back x ∙ sym (ap back y))

      by_link : (l : Link) → Contains handing_links l → Ends a b l → Reads (back a) (back b)
      by_link l (zero, small, is) ways = let one : link 0 (ResultEnd 0) 1 (ResultEnd 0) ≡ l = cc is in give (subst (Ends a b) (sym one) ways)
      by_link l (suc zero, small, is) ways = let one : link 0 (ResultEnd 1) 1 (ResultEnd 1) ≡ l = cc is in write (subst (Ends a b) (sym one) ways)
      by_link l (suc (suc n), small, is) ways = absurd (omega (arith, small))

  path_back : (n : ℕ) (a b : Place) → Path (handing w p) n a b → Reads (back a) (back b)
  path_back zero a b e = (0, ap back e)
  path_back (suc n) a b (c, inl s, path) =
      paths_then (reading w p) (back a) (back c) (back b) (within_back a.plan c.plan a.end c.end s) (path_back n c b path)
  path_back (suc n) a b (c, inr s, path) = paths_then (reading w p) (back a) (back c) (back b) (linked_back a c s) (path_back n c b path)

  -- so one plan is both joinings
  reads_so : (n : ℕ) (a b : End) → Path (handing w p) n (origin (handing w p) a) (origin (handing w p) b)
      → Reads (origin (reading w p) a) (origin (reading w p) b)
  reads_so n a b path =
      reads_at (origin (reading w p) a) (origin (reading w p) b) (back (origin (handing w p) a)) (back (origin (handing w p) b)) (sym (origin_back a)) (sym (origin_back b))
      (path_back n (origin (handing w p) a) (origin (handing w p) b) path)

  hands_so : (n : ℕ) (a b : End) → Path (reading w p) n (origin (reading w p) a) (origin (reading w p) b)
      → Hands (origin (handing w p) a) (origin (handing w p) b)
  hands_so n a b path =
      hands_at (origin (handing w p) a) (origin (handing w p) b) (forth (origin (reading w p) a)) (forth (origin (reading w p) b)) (origin_there a) (origin_there b)
      (path_there n (origin (reading w p) a) (origin (reading w p) b) path)

  module _ (r : Plan) (joined : IsJoined (reading w p) r) where
    handed : IsJoining (handing w p) r
    handed =
        record {
          parts = joined.joining.parts;
          imports = joined.joining.imports ∙ ap (map (λ (l : LeftImport). l.import)) left_same;
          outcome = joined.joining.outcome;
          weight = joined.joining.weight;
          right = joined.joining.right;
          result = result;
          fits = λ a b c d n at_a at_b apart path. (let (m, there) = reads_so n a b path in joined.joining.fits a b c d m at_a at_b apart there);
          joints = λ a b. (
            λ has. (let (q, v, n, at_a, at_b, path) = (joined.joining.joints a b).0 has in let (m, there) = hands_so n a b path in (q, v, m, at_a, at_b, there)),
            λ connected. (let (q, v, n, at_a, at_b, path) = connected in
                let (m, there) = reads_so n a b path in (joined.joining.joints a b).1 (q, v, m, at_a, at_b, there)),
          );
        }
      where
        result : (h : ℕ) (c : Contact) → slice_get (contacts_of (Exp w)) h ≡ Some c → slice_get (contacts_of (Fun (Var w) (Exp w))) (2 + h) ≡ Some c
        result zero c at = at
        result (suc h) c at = absurd (cc at)

    fits : LinksFit (handing w p)
    fits =
        record {
          right = right;
          each = each;
          once = once;
          left = left;
        }
      where
        right : (k : ℕ) (q : Plan) → slice_get (p ∷ deref_function w ∷ []) k ≡ Some q → IsRight q
        right zero q at = let same : p ≡ q = cc at in subst IsRight same (joined.fits.right 0 p refl)
        right (suc zero) q at = let same : deref_function w ≡ q = cc at in subst IsRight same (deref_right w)
        right (suc (suc k)) q at = absurd (cc at)

        of_p : (h : ℕ) → contact_at p (ResultEnd h) ≡ turned_if (slice_get (contacts_of (Var w)) h)
        of_p h = ap (λ (t : Type'). turned_if (slice_get (contacts_of t) h)) p_type

        each : (k : ℕ) (l : Link) → slice_get handing_links k ≡ Some l → LinkFits (handing w p) l
        each zero l at = let same : link 0 (ResultEnd 0) 1 (ResultEnd 0) ≡ l = cc at in subst (LinkFits (handing w p)) same ((λ e. numbers_apart e), (_, _, of_p 0, refl, refl))
        each (suc zero) l at =
            let same : link 0 (ResultEnd 1) 1 (ResultEnd 1) ≡ l = cc at in subst (LinkFits (handing w p)) same ((λ e. numbers_apart e), (_, _, of_p 1, refl, refl))
        each (suc (suc k)) l at = absurd (cc at)

        apart : (a : Place) → StandsIn a (link 0 (ResultEnd 0) 1 (ResultEnd 0)) → StandsIn a (link 0 (ResultEnd 1) 1 (ResultEnd 1)) → ⊥
        apart a (inl e) (inl f) =
            let same : ResultEnd 0 ≡ ResultEnd 1 = ap (λ (x : Place). x.end) (sym e ∙ f) in let number : zero ≡ suc zero = cc same in omega (arith, number)
        apart a (inl e) (inr f) = plans_apart (ResultEnd 0) (ResultEnd 1) (sym e ∙ f)
        apart a (inr e) (inl f) = plans_apart (ResultEnd 1) (ResultEnd 0) (sym f ∙ e)
        apart a (inr e) (inr f) =
            let same : ResultEnd 0 ≡ ResultEnd 1 = ap (λ (x : Place). x.end) (sym e ∙ f) in let number : zero ≡ suc zero = cc same in omega (arith, number)

        once : (j k : ℕ) (l m : Link) (a : Place) → slice_get handing_links j ≡ Some l → slice_get handing_links k ≡ Some m → StandsIn a l → StandsIn a m → j ≡ k
        once zero zero l m a at also stands too = refl
        once (suc zero) (suc zero) l m a at also stands too = refl
        once zero (suc zero) l m a at also stands too =
            let one : link 0 (ResultEnd 0) 1 (ResultEnd 0) ≡ l = cc at in
            let other : link 0 (ResultEnd 1) 1 (ResultEnd 1) ≡ m = cc also in
            absurd (apart a (subst (StandsIn a) (sym one) stands) (subst (StandsIn a) (sym other) too))
        once (suc zero) zero l m a at also stands too =
            let one : link 0 (ResultEnd 1) 1 (ResultEnd 1) ≡ l = cc at in
            let other : link 0 (ResultEnd 0) 1 (ResultEnd 0) ≡ m = cc also in
            absurd (apart a (subst (StandsIn a) (sym other) too) (subst (StandsIn a) (sym one) stands))
        once (suc (suc j)) k l m a at also stands too = absurd (cc at)
        once zero (suc (suc k)) l m a at also stands too = absurd (cc also)
        once (suc zero) (suc (suc k)) l m a at also stands too = absurd (cc also)

        past : (g h : ℕ) → g < 2 → StandsIn (place 1 (ResultEnd (2 + h))) (link 0 (ResultEnd g) 1 (ResultEnd g)) → ⊥
        past g h low (inl e) = plans_apart (ResultEnd g) (ResultEnd (2 + h)) (sym e)
        past g h low (inr e) =
            let ends : ResultEnd (2 + h) ≡ ResultEnd g = ap (λ (x : Place). x.end) e in let same : 2 + h ≡ g = cc ends in omega (arith, low, same)

        none : (h k : ℕ) (l : Link) → slice_get handing_links k ≡ Some l → StandsIn (place 1 (ResultEnd (2 + h))) l → ⊥
        none h zero l at stands =
            let one : link 0 (ResultEnd 0) 1 (ResultEnd 0) ≡ l = cc at in past 0 h (omega arith) (subst (StandsIn (place 1 (ResultEnd (2 + h)))) (sym one) stands)
        none h (suc zero) l at stands =
            let one : link 0 (ResultEnd 1) 1 (ResultEnd 1) ≡ l = cc at in past 1 h (omega arith) (subst (StandsIn (place 1 (ResultEnd (2 + h)))) (sym one) stands)
        none h (suc (suc k)) l at stands = cc at

        left : (h : ℕ) (c : Contact) → slice_get (contacts_of (Exp w)) h ≡ Some c
            → (slice_get (contacts_of (Fun (Var w) (Exp w))) (2 + h) ≡ Some c)
            × ((k : ℕ) (l : Link) → slice_get handing_links k ≡ Some l → StandsIn (place 1 (ResultEnd (2 + h))) l → ⊥)
        left zero c at = (at, none 0)
        left (suc h) c at = absurd (cc at)

    ports : LinksArePorts (handing w p)
    ports l (zero, small, is) =
        let one : link 0 (ResultEnd 0) 1 (ResultEnd 0) ≡ l = cc is in subst (λ (x : Link). IsPortEnd x.one.end × IsPortEnd x.other.end) one (tt, tt)
    ports l (suc zero, small, is) =
        let one : link 0 (ResultEnd 1) 1 (ResultEnd 1) ≡ l = cc is in subst (λ (x : Link). IsPortEnd x.one.end × IsPortEnd x.other.end) one (tt, tt)
    ports l (suc (suc k), small, is) = absurd (omega (arith, small))

    -- the variable's plan stands for the argument
    link_at : (g : ℕ) → g < 2 → Contains handing_links (link 0 (ResultEnd g) 1 (ResultEnd g))
    link_at zero low = (0, omega arith, refl)
    link_at (suc zero) low = (1, omega arith, refl)
    link_at (suc (suc g)) low = absurd (omega (arith, low))

    stands : StandsForArgument (handing w p) 1 (deref_function w) 0 p
    stands = (
      Exp w,
      ap (λ (t : Type'). Fun t (Exp w)) (sym p_type),
      λ g low. (link 0 (ResultEnd g) 1 (ResultEnd g), link_at g (subst (λ (t : Type'). g < count t) p_type low), inr (refl, refl)),
    )

    pair : (h : ℕ) → h < 2 → IsPair (handing w p) (place 1 (ResultEnd h)) (place 0 (ResultEnd h))
    pair h low = (deref_function w, p, h, refl, refl, refl, subst (λ (t : Type'). h < count t) (sym p_type) low, inr (stands, refl))

    pairs : (c d : Place) → Linked (handing w p) c d → IsPair (handing w p) c d ⊎ IsPair (handing w p) d c
    pairs c d (l, has, ways) = by_link l has ways
      where
        of_link : (h : ℕ) → h < 2 → Ends c d (link 0 (ResultEnd h) 1 (ResultEnd h)) → IsPair (handing w p) c d ⊎ IsPair (handing w p) d c
        of_link h low (inl (x, y)) =
            inr (subst (λ (z : Place). IsPair (handing w p) z c) (sym y) (subst (IsPair (handing w p) (place 1 (ResultEnd h))) (sym x) (pair h low)))
        of_link h low (inr (x, y)) =
            inl (subst (λ (z : Place). IsPair (handing w p) z d) (sym x) (subst (IsPair (handing w p) (place 1 (ResultEnd h))) (sym y) (pair h low)))

        by_link : (l : Link) → Contains handing_links l → Ends c d l → IsPair (handing w p) c d ⊎ IsPair (handing w p) d c
        by_link l (zero, small, is) ways = let one : link 0 (ResultEnd 0) 1 (ResultEnd 0) ≡ l = cc is in of_link 0 (omega arith) (subst (Ends c d) (sym one) ways)
        by_link l (suc zero, small, is) ways = let one : link 0 (ResultEnd 1) 1 (ResultEnd 1) ≡ l = cc is in of_link 1 (omega arith) (subst (Ends c d) (sym one) ways)
        by_link l (suc (suc n), small, is) ways = absurd (omega (arith, small))

    parent : (m : ℕ) (z : Plan) → slice_get (p ∷ deref_function w ∷ []) m ≡ Some z
        → (m ≡ 1) ⊎ (StandsForImport (handing w p) 1 (deref_function w) m z ⊎ StandsForArgument (handing w p) 1 (deref_function w) m z)
    parent zero z at = let same : p ≡ z = cc at in inr (inr (subst (StandsForArgument (handing w p) 1 (deref_function w) 0) same stands))
    parent (suc zero) z at = inl refl
    parent (suc (suc m)) z at = absurd (cc at)

    composes : Composes (handing w p) r
    composes =
        record {
          giver = deref_function w;
          is_giver = refl;
          pairs = pairs;
          parent = parent;
          in_rest = λ P h c way shut turned there ways keeps. in_rest (Var w) (Exp w) (deref_function w) p r refl p_type (P 1) h c way turned there ways keeps;
          out_rest = λ P turned. tt;
          busy_rest = λ P shut turned busy. fun_busy (Var w) (Exp w) (res (P 1)) (fun_turns (Var w) (Exp w) (deref_function w) p r refl p_type (P 1) turned) busy;
        }

    all_of : (Q : Plan → Type 0) → Q p → Q (deref_function w) → (k : ℕ) (z : Plan) → slice_get (p ∷ deref_function w ∷ []) k ≡ Some z → Q z
    all_of Q of_p of_d zero z at = let same : p ≡ z = cc at in subst Q same of_p
    all_of Q of_p of_d (suc zero) z at = let same : deref_function w ≡ z = cc at in subst Q same of_d
    all_of Q of_p of_d (suc (suc k)) z at = absurd (cc at)

    deref_literals : All LiteralFits (deref_function w).parts
    deref_literals = All-cons LiteralFits (kinds.Deref w) [] tt no_literals

    read_so : All LiteralFits p.parts → IsRegular p → Rests p → IsRegular r × Rests r
    read_so literals regular rests = (
      joining_is_regular (handing w p) r fits ports handed (all_of IsRegular regular (deref_regular w))
          (all_of (λ (z : Plan). All LiteralFits z.parts) literals deref_literals) (passes_turns (handing w p) r fits ports handed composes),
      joining_rests (handing w p) r fits ports handed (all_of IsRegular regular (deref_regular w))
          (all_of (λ (z : Plan). All LiteralFits z.parts) literals deref_literals) (all_of Rests rests (deref_rests w)) composes,
    )

pub reading_is_regular : ReadingIsRegular
reading_is_regular w p r p_type literals regular rests joined = read_so w p p_type r joined literals regular rests
