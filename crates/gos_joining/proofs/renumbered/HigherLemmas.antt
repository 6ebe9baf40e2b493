-- Realising at each type doesn't see numbers: what is joined to renumbered plans is renumbered.
use Rattle.std.specs.Prelude.{◌≡◌, ℕ, zero, suc, List, [], ◌∷◌, Some, Contains, slice_get}
use Rattle.std.proofs.Common.{refl, sym, ◌∙◌, ap, subst, arith, inl, inr}
use Rattle.gos_types.specs.Types.{Type', Com, Exp, Var, Pair, Fun}
use Rattle.gos_model.specs.Terms.{Term, Lit, App, Fst, Snd, Assign, Deref}
use Rattle.gos_plan.specs.Kinds as kinds
use Rattle.gos_plan.specs.Plans.{End, PartEnd, ImportEnd, ResultEnd, Plan, IsRight}
use Rattle.gos_plan.specs.Joining.{Place, place, Link, Linked, Wiring}
use Rattle.gos_plan.proofs.WiringLemmas.{place_is}
use Rattle.gos_realises.specs.realises.Regular.{count}
use Rattle.gos_realises.specs.realises.Matched.{RealisesInTurn}
use Rattle.gos_realises.specs.realises.Links.{LinksFit, IsJoined}
use Rattle.gos_realises.specs.realises.Wirings.{lone, link, results_linked}
use Rattle.gos_realises.specs.realises.Realises.{NamesDiffer, Suits, Means}
use Rattle.gos_realises.proofs.realises.LiteralLemmas.{literals_among}
use Rattle.gos_realises.proofs.joined.WholeLemmas.{applied_is_joined, sides_are_joined, variables_are_joined}
use Rattle.gos_joining.specs.webs.Webs.{joint}
use Rattle.gos_joining.specs.webs.Renumbering.{Renumber, IsOneToOne, IsRenumbered, back, moved_end}
use Rattle.gos_joining.proofs.webs.IdleLemmas.{renumbered_back}
use Rattle.gos_joining.proofs.webs.MovedLemmas.{back_and_there}
use Rattle.gos_joining.specs.renumbered.Rewired.{rewired, IsRewired}
use Rattle.gos_joining.specs.renumbered.SmallRewirings.{unchanged}
use Rattle.gos_joining.specs.renumbered.Renumbered.{RenumberedIsRegular, RenumberedIsDone, RenumberedIsRealised}
use Rattle.gos_joining.proofs.renumbered.ImportLemmas.{AreReordered, typed_same, ports_same, names_same, other_names_same, reordered_same}
use Rattle.gos_joining.proofs.renumbered.OrderLemmas.{regular_back, reordered, realises_back}
use Rattle.gos_joining.proofs.renumbered.RewireLemmas.{rewired_is_renumbered}

pub unchanged_end : (e : End) → moved_end unchanged e ≡ e
unchanged_end (PartEnd i h) = refl
unchanged_end (ImportEnd i h) = refl
unchanged_end (ResultEnd h) = refl

pub unchanged_one : IsOneToOne unchanged
unchanged_one = record { parts = λ i. refl; parts_back = λ i. refl; imports = λ i. refl; imports_back = λ i. refl }

pub is_itself : (p : Plan) → IsRight p → IsRenumbered unchanged p p
is_itself p right =
    record {
      one_to_one = unchanged_one;
      parts = λ i. refl;
      imports = λ i. refl;
      outcome = refl;
      joints = λ a b. (
        λ has. subst (λ (x : End). Contains p.joints (joint x (moved_end unchanged b))) (sym (unchanged_end a))
            (subst (λ (y : End). Contains p.joints (joint a y)) (sym (unchanged_end b)) has),
        λ has. subst (λ (x : End). Contains p.joints (joint x b)) (unchanged_end a)
            (subst (λ (y : End). Contains p.joints (joint (moved_end unchanged a) y)) (unchanged_end b) has),
      );
      right = right;
      also_right = right;
    }

-- the first plan renumbered, and no other
abbrev at_first : Renumber → ℕ → Renumber
at_first f zero = f
at_first f (suc k) = unchanged

abbrev same_number : ℕ → ℕ
same_number k = k

first_one : (f : Renumber) → IsOneToOne f → (k : ℕ) → IsOneToOne (at_first f k)
first_one f one zero = one
first_one f one (suc k) = unchanged_one

abbrev wiring : Plan → List Plan → List Link → ℕ → ℕ → Type' → Wiring
wiring p ps ls giver skipped t = record { plans = p ∷ ps; links = ls; giver = giver; skipped = skipped; outcome = t }

-- the link's places keep their numbers
abbrev Unmoved : Renumber → Place → Type 0
Unmoved f a = rewired same_number (at_first f) a ≡ a

abbrev AllUnmoved : Renumber → List Link → Type 0
AllUnmoved f ls = (l : Link) → Contains ls l → Unmoved f l.one × Unmoved f l.other

module _ (f : Renumber) (p q : Plan) (ps : List Plan) (ls : List Link) (giver skipped : ℕ) (t : Type') (is : IsRenumbered f p q)
    (rights : (k : ℕ) (x : Plan) → slice_get ps k ≡ Some x → IsRight x) (unmoved : AllUnmoved f ls)
  where
    abbrev moves : Place → Place
    moves = rewired same_number (at_first f)

    moves_one : (a b : Place) → moves a ≡ moves b → a ≡ b
    moves_one a b e =
        let plans : a.plan ≡ b.plan = ap (λ (x : Place). x.plan) e in
        let ends : moved_end (at_first f a.plan) a.end ≡ moved_end (at_first f a.plan) b.end =
        ap (λ (x : Place). x.end) e ∙ ap (λ (k : ℕ). moved_end (at_first f k) b.end) (sym plans)
        in
        let one = first_one f is.one_to_one a.plan in
        place_is a b plans
        (sym (back_and_there (at_first f a.plan) one a.end) ∙ (ap (moved_end (back (at_first f a.plan))) ends ∙ back_and_there (at_first f a.plan) one b.end))

    link_there : (a b : Place) → Linked (wiring p ps ls giver skipped t) a b → Linked (wiring q ps ls giver skipped t) (moves a) (moves b)
    link_there a b (l, has, inl (e, g)) =
        let both = unmoved l has in (l, has, inl (ap moves e ∙ both.0, ap moves g ∙ both.1))
    link_there a b (l, has, inr (e, g)) =
        let both = unmoved l has in (l, has, inr (ap moves e ∙ both.1, ap moves g ∙ both.0))

    link_here : (a b : Place) → Linked (wiring q ps ls giver skipped t) (moves a) (moves b) → Linked (wiring p ps ls giver skipped t) a b
    link_here a b (l, has, inl (e, g)) =
        let both = unmoved l has in (l, has, inl (moves_one a l.one (e ∙ sym both.0), moves_one b l.other (g ∙ sym both.1)))
    link_here a b (l, has, inr (e, g)) =
        let both = unmoved l has in (l, has, inr (moves_one a l.other (e ∙ sym both.1), moves_one b l.one (g ∙ sym both.0)))

    abbrev PlanThere : ℕ → Plan → Type 0
    PlanThere k x = (y : Plan) × (slice_get (q ∷ ps) k ≡ Some y) × IsRenumbered (at_first f k) x y

    plans_there : (k : ℕ) (x : Plan) → slice_get (p ∷ ps) k ≡ Some x → PlanThere k x
    plans_there zero x at = let same : p ≡ x = cc at in (q, refl, subst (λ (y : Plan). IsRenumbered f y q) same is)
    plans_there (suc k) x at = (x, at, is_itself x (rights k x at))

    plans_here : (k : ℕ) (y : Plan) → slice_get (q ∷ ps) k ≡ Some y → (x : Plan) × (slice_get (p ∷ ps) k ≡ Some x)
    plans_here zero y at = (p, refl)
    plans_here (suc k) y at = (y, at)

    first_rewired : IsRewired same_number same_number (at_first f) (wiring p ps ls giver skipped t) (wiring q ps ls giver skipped t)
    first_rewired =
        record {
          returns = λ k. refl;
          comes = λ k. refl;
          one_to_one = first_one f is.one_to_one;
          plans = plans_there;
          no_more = plans_here;
          links = λ a b. (link_there a b, link_here a b);
          giver = refl;
          skipped = refl;
          outcome = refl;
        }

    -- so are their joinings
    pub joined_moved : (r s : Plan) → IsJoined (wiring p ps ls giver skipped t) r → IsJoined (wiring q ps ls giver skipped t) s → (g : Renumber) × IsRenumbered g r s
    joined_moved r s of_p of_q =
        rewired_is_renumbered same_number same_number (at_first f) (wiring p ps ls giver skipped t) (wiring q ps ls giver skipped t) r s first_rewired of_p.joining
        of_q.joining

-- the links of the relation
result_unmoved : (f : Renumber) (n : ℕ) → Unmoved f (place 0 (ResultEnd n))
result_unmoved f n = refl

other_unmoved : (f : Renumber) (k : ℕ) (e : End) → Unmoved f (place (suc k) e)
other_unmoved f k e = ap (place (suc k)) (unchanged_end e)

no_links : (f : Renumber) → AllUnmoved f []
no_links f l (k, small, e) = absurd (omega (arith, small))

one_more : (f : Renumber) (l : Link) (ls : List Link) → Unmoved f l.one → Unmoved f l.other → AllUnmoved f ls → AllUnmoved f (l ∷ ls)
one_more f l ls one other rest m (zero, small, e) =
    (subst (λ (x : Link). Unmoved f x.one) e one, subst (λ (x : Link). Unmoved f x.other) e other)
one_more f l ls one other rest m (suc k, small, e) = rest m (k, omega (arith, small), e)

results_unmoved : (f : Renumber) (n m : ℕ) → AllUnmoved f (results_linked 1 n m)
results_unmoved f n zero = no_links f
results_unmoved f n (suc m) =
    one_more f (link 0 (ResultEnd n) 1 (ResultEnd n)) (results_linked 1 (suc n) m) (result_unmoved f n) (other_unmoved f 0 (ResultEnd n))
    (results_unmoved f (suc n) m)

reading_unmoved : (f : Renumber) → AllUnmoved f (link 0 (ResultEnd 0) 1 (PartEnd 0 0) ∷ [])
reading_unmoved f =
    one_more f (link 0 (ResultEnd 0) 1 (PartEnd 0 0)) [] (result_unmoved f 0) (other_unmoved f 0 (PartEnd 0 0)) (no_links f)

writing_unmoved : (f : Renumber) → AllUnmoved f (link 0 (ResultEnd 1) 1 (PartEnd 0 1) ∷ link 1 (PartEnd 0 0) 2 (ResultEnd 0) ∷ [])
writing_unmoved f =
    one_more f (link 0 (ResultEnd 1) 1 (PartEnd 0 1)) (link 1 (PartEnd 0 0) 2 (ResultEnd 0) ∷ []) (result_unmoved f 1) (other_unmoved f 0 (PartEnd 0 1))
    (one_more f (link 1 (PartEnd 0 0) 2 (ResultEnd 0)) [] (other_unmoved f 0 (PartEnd 0 0)) (other_unmoved f 1 (ResultEnd 0)) (no_links f))

-- the other plans of a wiring whose links fit are right
other_rights : (p : Plan) (ps : List Plan) (ls : List Link) (giver skipped : ℕ) (t : Type') → LinksFit (wiring p ps ls giver skipped t)
    → (k : ℕ) (x : Plan) → slice_get ps k ≡ Some x → IsRight x
other_rights p ps ls giver skipped t fit k x at = fit.right (suc k) x at

-- a plan that is one with another but for numbers suits where it does
module _ (f : Renumber) (p q : Plan) (is : IsRenumbered f p q) where
  back_reordered : AreReordered f.import_back f.import q.imports p.imports
  back_reordered = reordered (back f) q p (renumbered_back f p q is)

  suits_back : (t : Type') (m : Term) → Suits t q m → Suits t p m
  suits_back t m suits =
      record {
        right = is.right;
        literals = literals_among f.part p.parts q.parts (λ i k at. is.parts i ∙ at) suits.literals;
        outcome = sym is.outcome ∙ suits.outcome;
        all_ports = ports_same f.import_back f.import q.imports p.imports back_reordered suits.all_ports;
        names = names_same f.import_back f.import q.imports p.imports back_reordered suits.names;
        typed = typed_same q.imports p.imports (reordered_same f.import_back f.import q.imports p.imports back_reordered suits.names) [] m t suits.typed;
        regular = regular_back f p q is suits.regular;
      }

  done_back : (m : Term) → NamesDiffer p.imports → RealisesInTurn q m → RealisesInTurn p m
  done_back m names done = realises_back f p q is m (reordered_same f.import f.import_back p.imports q.imports (reordered f p q is) names) done

  done_of_other : (m : Term) → NamesDiffer q.imports → RealisesInTurn q m → RealisesInTurn p m
  done_of_other m names done = done_back m (names_same f.import_back f.import q.imports p.imports back_reordered names) done

abbrev DoneToo : Type' → Plan → Term → Type 0
DoneToo t r m = Suits t r m × RealisesInTurn r m

done_too : (g : Renumber) (r s : Plan) (t : Type') (m : Term) → IsRenumbered g r s → DoneToo t s m → DoneToo t r m
done_too g r s t m is (suits, done) = (suits_back g r s is t m suits, done_of_other g r s is m suits.names done)

means_back : (t : Type') (f : Renumber) (p q : Plan) (m : Term) → IsRenumbered f p q → Suits t q m → Means t q m → Means t p m
means_back Com f p q m is suits means = done_of_other f p q is m suits.names means
means_back (Exp w) f p q m is suits means = done_of_other f p q is m suits.names means
means_back (Var w) f p q m is suits (reads, writes) = (
  λ r joined.
      (let (s, joined_s) = (variables_are_joined w 0 q suits.right suits.outcome).0 in
      let (g, same) =
      joined_moved f p q (lone (kinds.Deref w) 1 (Exp w) ∷ []) (link 0 (ResultEnd 0) 1 (PartEnd 0 0) ∷ []) 1 0 (Exp w) is
      (other_rights p (lone (kinds.Deref w) 1 (Exp w) ∷ []) (link 0 (ResultEnd 0) 1 (PartEnd 0 0) ∷ []) 1 0 (Exp w) joined.fits) (reading_unmoved f) r s joined joined_s
      in
      done_too g r s (Exp w) (Deref m) same (reads s joined_s)),
  λ r k small joined.
      (let (s, joined_s) = (variables_are_joined w k q suits.right suits.outcome).1 in
      let (g, same) =
      joined_moved f p q (lone (kinds.Assign w) 2 Com ∷ lone (kinds.Lit w k) 0 (Exp w) ∷ [])
      (link 0 (ResultEnd 1) 1 (PartEnd 0 1) ∷ link 1 (PartEnd 0 0) 2 (ResultEnd 0) ∷ []) 1 0 Com is
      (other_rights p (lone (kinds.Assign w) 2 Com ∷ lone (kinds.Lit w k) 0 (Exp w) ∷ [])
      (link 0 (ResultEnd 1) 1 (PartEnd 0 1) ∷ link 1 (PartEnd 0 0) 2 (ResultEnd 0) ∷ []) 1 0 Com joined.fits) (writing_unmoved f) r s joined joined_s
      in
      done_too g r s Com (Assign m (Lit k w)) same (writes s k small joined_s)),
)
means_back (Pair a b) f p q m is suits (first, second) = (
  λ r joined.
      (let (s, joined_s) = (sides_are_joined a b q suits.right suits.outcome).0 in
      let (g, same) = joined_moved f p q [] [] 0 0 a is (other_rights p [] [] 0 0 a joined.fits) (no_links f) r s joined joined_s in
      let (also, meant) = first s joined_s in
      (suits_back g r s same a (Fst m) also, means_back a g r s (Fst m) same also meant)),
  λ r joined.
      (let (s, joined_s) = (sides_are_joined a b q suits.right suits.outcome).1 in
      let (g, same) = joined_moved f p q [] [] 0 (count a) b is (other_rights p [] [] 0 (count a) b joined.fits) (no_links f) r s joined joined_s in
      let (also, meant) = second s joined_s in
      (suits_back g r s same b (Snd m) also, means_back b g r s (Snd m) same also meant)),
)
means_back (Fun a b) f p q m is suits means = λ x r n names of_x meant_x joined.
    let (s, joined_s) = applied_is_joined a b q x suits.right of_x.right suits.outcome of_x.outcome in
    let (g, same) =
    joined_moved f p q (x ∷ []) (results_linked 1 0 (count a)) 0 (count a) b is (other_rights p (x ∷ []) (results_linked 1 0 (count a)) 0 (count a) b joined.fits)
    (results_unmoved f 0 (count a)) r s joined joined_s
    in
    let apart = other_names_same f.import f.import_back p.imports q.imports x.imports (reordered f p q is) names in
    let (also, meant) = means x s n apart of_x meant_x joined_s in
    (suits_back g r s same b (App m n) also, means_back b g r s (App m n) same also meant)

pub renumbered_is_regular : RenumberedIsRegular
renumbered_is_regular f p q is regular = regular_back f p q is regular

pub renumbered_is_done : RenumberedIsDone
renumbered_is_done f p q m is names done = done_back f p q is m names done

pub renumbered_is_realised : RenumberedIsRealised
renumbered_is_realised f p q t m is realised =
    record { suits = suits_back f p q is t m realised.suits; means = means_back t f p q m is realised.suits realised.means }
