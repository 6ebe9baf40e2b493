-- A function's plan without joints, joined to the plan of `skip`: nothing leads from the result to Skip.
use Rattle.std.specs.Prelude.{◌≡◌, ◌≢◌, ℕ, zero, suc, ◌+◌, List, [], ◌∷◌, ◌⊎◌, Option, Some, None, Contains, slice_get}
use Rattle.std.proofs.Common.{refl, sym, ◌∙◌, ap, subst, arith, inl, inr}
use Rattle.gos_types.specs.declared.shakes.Role.{Role}
use Rattle.gos_types.specs.declared.shakes.Role.TheVariants.{Ask}
use Rattle.gos_types.specs.Types.{Com, Fun}
use Rattle.gos_types.proofs.ListLemmas.{none_in_empty}
use Rattle.gos_types.proofs.RoleLemmas.{ask_is_not_serve}
use Rattle.gos_model.specs.Terms as terms
use Rattle.gos_model.specs.Terms.{Term, Lam, App, Bound}
use Rattle.gos_model.specs.Reach.{Unfolds}
use Rattle.gos_model.specs.Labels.{given}
use Rattle.gos_model.specs.Moves.{Program, Config, Idle, Running, Act, Computing, Showing, Moves, labels, Unfoldings, ActsTo, Stalled}
use Rattle.gos_plan.specs.Kinds.{Skip, Contact, asks, serves, contacts_of}
use Rattle.gos_plan.specs.Firing.{Slot}
use Rattle.gos_plan.specs.Plans.{End, PartEnd, ImportEnd, ResultEnd, Joint, Plan, contact_at}
use Rattle.gos_plan.specs.Tokens.{Tokens, Fire, Out, In, Does, IsQuiet}
use Rattle.gos_plan.specs.Joining.{Place, place, Link, Wiring, origin, JoinedWithin, Linked, Path, Connects}
use Rattle.gos_plan.specs.SmallPlans.{skip_plan, at_first}
use Rattle.gos_realises.specs.realises.Matched.{program_of}
use Rattle.gos_realises.specs.realises.Links.{IsJoined}
use Rattle.gos_realises.specs.realises.Wirings.{applying}
use Rattle.gos_realises.specs.realises.OtherPlans.{empty_function, EmptyIsNoFunction}
use Rattle.gos_realises.proofs.realises.FittingLemmas.{applied_fits}
use Rattle.gos_realises.proofs.realises.SkipLemmas.{skip_is_realised}
use Rattle.gos_realises.proofs.realises.TraceLemmas.{unfolds_none, computes_none, first_is_idle}

abbrev wiring : Wiring
wiring = applying Com Com empty_function skip_plan

-- the joining: Skip, which nothing asks
abbrev lost : Plan
lost = record { weight = 16; imports = []; outcome = Com; parts = Skip ∷ []; joints = [] }

-- the outcome's handshake is in a class of its own
abbrev class_of : ℕ → End → ℕ
class_of zero (PartEnd i h) = 0
class_of zero (ImportEnd i h) = 0
class_of zero (ResultEnd zero) = 0
class_of zero (ResultEnd (suc h)) = 1
class_of (suc k) e = 0

abbrev class : Place → ℕ
class a = class_of a.plan a.end

joined_class : (k : ℕ) (a b : End) (p : Plan) (j : Joint) → slice_get wiring.plans k ≡ Some p → Contains p.joints j → class_of k a ≡ class_of k b
joined_class zero a b p j is has =
    let same : empty_function ≡ p = cc is in absurd (none_in_empty j (subst (λ (x : Plan). Contains x.joints j) (sym same) has))
joined_class (suc k) a b p j is has = refl

linked_class : (a b : Place) → Linked wiring a b → class a ≡ class b
linked_class a b (l, (zero, m, e), ways) =
    by_way (subst (λ (x : Link). ((a ≡ x.one) × (b ≡ x.other)) ⊎ ((a ≡ x.other) × (b ≡ x.one))) (sym e) ways)
  where
    by_way : ((a ≡ place 0 (ResultEnd 0)) × (b ≡ place 1 (ResultEnd 0))) ⊎ ((a ≡ place 1 (ResultEnd 0)) × (b ≡ place 0 (ResultEnd 0))) → class a ≡ class b
    by_way (inl (f, g)) = ap (λ x. class x) f ∙ sym (ap (λ x. class x) g)
    by_way (inr (f, g)) = ap (λ x. class x) f ∙ sym (ap (λ x. class x) g)
linked_class a b (l, (suc n, m, e), ways) = absurd (omega (arith, m))

step_class : (a b : Place) → JoinedWithin wiring a b ⊎ Linked wiring a b → class a ≡ class b
step_class a b (inl (p, j, same, is, has, ways)) = joined_class a.plan a.end b.end p j is has ∙ ap (λ k. class_of k b.end) same
step_class a b (inr linked) = linked_class a b linked

path_class : (n : ℕ) (a b : Place) → Path wiring n a b → class a ≡ class b
path_class zero a b e = ap (λ x. class x) e
path_class (suc n) a b (c, step, path) = step_class a c step ∙ path_class n c b path

two_ends : (e : End) (c : Contact) → contact_at lost e ≡ Some c → (e ≡ ResultEnd 0) ⊎ (e ≡ PartEnd 0 0)
two_ends (PartEnd zero zero) c h = inr refl
two_ends (PartEnd zero (suc j)) c h = absurd (grind (arith, h))
two_ends (PartEnd (suc i) j) c h = absurd (grind (arith, h))
two_ends (ImportEnd i j) c h = absurd (grind (arith, h))
two_ends (ResultEnd zero) c h = inl refl
two_ends (ResultEnd (suc j)) c h = absurd (grind (arith, h))

abbrev end_class : End → ℕ
end_class e = class (origin wiring e)

apart_classes : (a b : End) → (a ≡ ResultEnd 0) ⊎ (a ≡ PartEnd 0 0) → (b ≡ ResultEnd 0) ⊎ (b ≡ PartEnd 0 0) → a ≢ b → end_class a ≡ end_class b → ⊥
apart_classes a b (inl e) (inl f) apart same = apart (e ∙ sym f)
apart_classes a b (inl e) (inr f) apart same =
    let no : 1 ≡ 0 = sym (ap (λ x. end_class x) e) ∙ (same ∙ ap (λ x. end_class x) f) in omega (arith, no)
apart_classes a b (inr e) (inl f) apart same =
    let no : 0 ≡ 1 = sym (ap (λ x. end_class x) e) ∙ (same ∙ ap (λ x. end_class x) f) in omega (arith, no)
apart_classes a b (inr e) (inr f) apart same = apart (e ∙ sym f)

no_path : (a b : End) (c d : Contact) (n : ℕ) → contact_at lost a ≡ Some c → contact_at lost b ≡ Some d → a ≢ b
    → Path wiring n (origin wiring a) (origin wiring b) → ⊥
no_path a b c d n one other apart path =
    apart_classes a b (two_ends a c one) (two_ends b d other) apart (path_class n (origin wiring a) (origin wiring b) path)

abbrev role_or : Option Contact → Role
role_or None = Ask
role_or (Some c) = c.role

no_connection : (a b : End) → Connects wiring lost a b → ⊥
no_connection a b (q, v, n, asked, served, path) = no_path a b (asks q v) (serves q v) n asked served apart path
  where
    apart : a ≢ b
    apart e =
        ask_is_not_serve (ap role_or (sym asked ∙ (ap (contact_at lost) e ∙ served)))

result : (h : ℕ) (c : Contact) → slice_get (contacts_of Com) h ≡ Some c → slice_get (contacts_of (Fun Com Com)) (1 + h) ≡ Some c
result zero c there = there
result (suc h) c there = absurd (grind (arith, there))

joined : IsJoined wiring lost
joined =
    record {
      fits = applied_fits Com Com empty_function skip_plan tt skip_is_realised.suits.right refl refl;
      joining =
          record {
            parts = refl;
            imports = refl;
            outcome = refl;
            weight = refl;
            right = tt;
            result = result;
            fits = λ a b c d n one other apart path. absurd (no_path a b c d n one other apart path);
            joints = λ a b. (λ has. absurd (none_in_empty (record { asking = a; serving = b }) has), λ connects. absurd (no_connection a b connects));
          };
    }

-- the program, and what it can do after its run
abbrev term : Term
term = App (Lam Com (Bound 0)) terms.Skip

abbrev program : Program
program = program_of lost term

unfolds_to : (u : Term) → Unfolds term u → terms.Skip ≡ u
unfolds_to u h = grind (arith, h)

unfolded : (n : ℕ) (u : Term) → Unfoldings n term u → (term ≡ u) ⊎ (terms.Skip ≡ u)
unfolded zero u h = inl h
unfolded (suc n) u (v, once, more) = inr (unfolds_none n u (subst (λ x. Unfoldings n x u) (sym (unfolds_to v once)) more))

waits : (e : Config) → ActsTo [] Computing [] term e → ⊥
waits Idle h = h
waits (Running m s) h = grind (arith, h)

no_step : (u : Term) (e : Config) → (term ≡ u) ⊎ (terms.Skip ≡ u) → ActsTo [] Computing [] u e → ⊥
no_step u e (inl is) h = waits e (subst (λ v. ActsTo [] Computing [] v e) (sym is) h)
no_step u e (inr is) h = computes_none e (subst (λ v. ActsTo [] Computing [] v e) (sym is) h)

no_moves : (acts : List Act) (e : Config) → Moves program acts (Running term []) e → labels acts ≡ [] → e ≡ Running term []
no_moves [] e m l = sym m
no_moves (Computing ∷ acts) e (b, (n, u, us, h), m) l = absurd (no_step u b (unfolded n u us) h)
no_moves (Showing o ∷ acts) e m l = absurd cc

first_moves : (acts : List Act) (e : Config) → Moves program acts Idle e → labels acts ≡ given 0 0 ∷ [] → e ≡ Running term []
first_moves [] e m l = absurd cc
first_moves (Computing ∷ acts) e (b, (is, at_body), m) l = absurd cc
first_moves (Showing o ∷ acts) e (b, (is, at_body), m) l =
    let rest : labels acts ≡ [] = cc in
    no_moves acts e (subst (λ x. Moves program acts x e) at_body m) rest

can_answer : Stalled program (Running term []) → ⊥
can_answer stalled =
    stalled.1 (given 1 0) Idle refl (1, terms.Skip, (terms.Skip, inl (inl (inl (Com, Bound 0, refl, refl))), refl), inl (refl, refl))

lost_is_quiet : (s : Tokens) → IsQuiet lost s
lost_is_quiet s = (no_firing, no_output)
  where
    no_firing : (i : ℕ) (t : Slot) (w : Tokens) → Does lost (Fire i t) s w → ⊥
    no_firing i t w (v, r, lies, fires, leads) = cc lies

    no_output : (e : End) (v : ℕ) (w : Tokens) → Does lost (Out e v) s w → ⊥
    no_output (PartEnd i h) v w does = does.0
    no_output (ImportEnd i h) v w does = does.1
    no_output (ResultEnd zero) v w does = let none = does.1.0 in cc none
    no_output (ResultEnd (suc h)) v w does = does.1

pub empty_is_no_function : EmptyIsNoFunction
empty_is_no_function r =
    let done = (r.means skip_plan lost terms.Skip (λ i j has none. absurd (none_in_empty j none)) skip_is_realised.suits skip_is_realised.means joined).1 in
    let comes : Does lost (In (ResultEnd 0) 0) at_first at_first = (tt, (omega arith, refl)) in
    let both = done at_first at_first (In (ResultEnd 0) 0 ∷ []) (first_is_idle lost) (at_first, comes, refl) ((refl, tt), tt) in
    let (acts, e, moves, shown, goes, last) = both.0.1 at_first comes in
    can_answer (subst (λ x. Stalled program x) (first_moves acts e moves shown) (last.0 (lost_is_quiet at_first)))
