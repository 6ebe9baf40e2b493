-- The plan of `skip ; skip` is a node of two stages; and a Share that serves both callers, list by list.
use Rattle.std.specs.Prelude.{◌≡◌, ℕ, zero, suc, false, Some, All, slice_get, Contains, List, [], ◌∷◌, ◌++◌, ◌⊎◌}
use Rattle.std.proofs.Common.{refl, sym, ◌∙◌, ap, subst, arith, inl, inr}
use Rattle.std.proofs.lemmas.Option.{none-some, same_Some}
use Rattle.gos_types.specs.Types.{Com}
use Rattle.gos_types.specs.Events.{Request}
use Rattle.gos_types.proofs.ListLemmas.{none_in_empty}
use Rattle.gos_model.specs.Typing.{Imported}
use Rattle.gos_plan.specs.Kinds.{Part, Skip}
use Rattle.gos_plan.specs.Firing.{Phase, Rest, First, Second, Req, Ans, row, at, put}
use Rattle.gos_plan.specs.Plans.{End, PartEnd, ImportEnd, ResultEnd, Joint, Plan, stands_in}
use Rattle.gos_plan.specs.Tokens.{Tokens, Element, Fire, Out, In, with_token, fired, Runs, IsIdle}
use Rattle.gos_plan.specs.TokenBits.{LiteralFits}
use Rattle.gos_plan.specs.SmallPlans.{skip_plan, at_first}
use Rattle.gos_plan.proofs.SmallPlanLemmas.{skip_is_right}
use Rattle.gos_realises.specs.realises.Regular.{IsRegular}
use Rattle.gos_realises.proofs.realises.OneJointLemmas.{is_idle}
use Rattle.gos_realises.proofs.realises.RingLemmas.{Script, by_turns, leads_on}
use Rattle.gos_realises.proofs.realises.SkipLemmas as skips
use Rattle.gos_realises.proofs.realises.SkipLemmas.{skip_is_realised}
use Rattle.gos_joining.specs.webs.Webs.{joint}
use Rattle.gos_joining.specs.webs.SmallWebs.{twice_plan, first_out}
use Rattle.gos_joining.specs.webs.Cutting.{Cut, IsCut, StandsIn}
use Rattle.gos_joining.proofs.webs.LoneCutLemmas.{AreOutside, lone_is_cut}
use Rattle.gos_joining.proofs.webs.SmallWebLemmas.{twice_is_right, one_port, first_is_cut}
use Rattle.gos_nodes.specs.sessions.Sessions.{Session, session_of}
use Rattle.gos_nodes.specs.windows.Regions.{IsRegion}
use Rattle.gos_nodes.specs.windows.Nodes.{Stage, IsRestful, IsStage, IsOfStage}
use Rattle.gos_nodes.proofs.windows.OpenLemmas.{ground_node_is_open}
use Rattle.gos_nodes.specs.windows.SmallNodes.{number_of_second, port_of_second, second_out, first_stage, second_stage, twice_form, TwiceIsNode, OneIsMissing, TwiceIsOpen, function_plan, deaf_stage, DeafIsNone, both_plan, SharedForBoth}

-- a cut is a region without Shares
cut_region : (f : Cut) (r c : Plan) → IsCut f r c → IsRegion f [] r c
cut_region f r c is =
    record {
      whole_right = is.whole_right;
      right = is.right;
      parts = is.parts;
      numbers = is.numbers;
      ports = is.ports;
      inners = is.inners;
      contacts = is.contacts;
      joints = is.joints;
      all = λ a b there inside. inl (is.all a b there inside);
      serving = λ n there. absurd (none_in_empty n there);
      unused = λ n i j there number low stands. none_in_empty n there;
    }

-- the second Skip
its_number : (i j : ℕ) → number_of_second i ≡ Some j → (2 ≡ i) × (0 ≡ j)
its_number zero j is = absurd (none-some j is)
its_number (suc zero) j is = absurd (none-some j is)
its_number (suc (suc zero)) j is = (refl, same_Some 0 j is)
its_number (suc (suc (suc i))) j is = absurd (none-some j is)

its_port : (b e : End) → port_of_second b ≡ Some e → (PartEnd 0 1 ≡ b) × (ResultEnd 0 ≡ e)
its_port (PartEnd zero zero) e is = absurd (none-some e is)
its_port (PartEnd zero (suc zero)) e is = (refl, same_Some (ResultEnd 0) e is)
its_port (PartEnd zero (suc (suc h))) e is = absurd (none-some e is)
its_port (PartEnd (suc i) h) e is = absurd (none-some e is)
its_port (ImportEnd i h) e is = absurd (none-some e is)
its_port (ResultEnd h) e is = absurd (none-some e is)

its_joint : (j : Joint) → Contains twice_plan.joints j → (joint (PartEnd 0 1) (PartEnd 2 0) ≡ j) ⊎ AreOutside second_out j
its_joint j (zero, l, e) = inr (subst (AreOutside second_out) e (tt, refl))
its_joint j (suc zero, l, e) = inr (subst (AreOutside second_out) e (refl, refl))
its_joint j (suc (suc zero), l, e) = inl e
its_joint j (suc (suc (suc n)), l, e) = absurd (omega (arith, l))

second_is_cut : IsCut second_out twice_plan skip_plan
second_is_cut =
    lone_is_cut 5 Com Skip 2 (PartEnd 0 1) number_of_second port_of_second twice_plan
    (record {
      whole_right = twice_is_right;
      right = skip_is_right;
      part = refl;
      own_number = refl;
      one_number = its_number;
      outside = refl;
      own_port = refl;
      one_port = its_port;
      contact = refl;
      asked = (2, omega arith, refl);
      joints = its_joint;
    })

-- `skip` rests after its answer
last_of : (xs : List Element) (x : Element) (q : skips.Stage) (s t : Tokens) → skips.At q s → Runs skip_plan (xs ++ x ∷ []) s t → Script skips.Stage skips.next skips.succ (xs ++ x ∷ []) q
    → (z : skips.Stage) × (x ≡ skips.next z) × skips.At (skips.succ z) t
last_of [] x q s t here (w, does, is) (e, script) =
    (q, e, subst (skips.At (skips.succ q)) (sym is) (leads_on skip_plan skips.Stage skips.next skips.succ skips.At skips.OpenAt skips.Opened skips.circle x q s w e here does))
last_of (y ∷ ys) x q s t here (w, does, runs) (e, script) =
    last_of ys x (skips.succ q) w t (leads_on skip_plan skips.Stage skips.next skips.succ skips.At skips.OpenAt skips.Opened skips.circle y q s w e here does) runs script

answered : (v : ℕ) (z : skips.Stage) (t : Tokens) → Out (ResultEnd 0) v ≡ skips.next z → skips.At (skips.succ z) t → IsIdle skip_plan t
answered v skips.Resting t is here = let clash : Out (ResultEnd 0) v ≡ In (ResultEnd 0) 0 = is in absurd (cc clash)
answered v skips.Asked t is here = let clash : Out (ResultEnd 0) v ≡ Fire 0 (Req 0) = is in absurd (cc clash)
answered v skips.Answered t is here = is_idle (ResultEnd 0) skip_plan t here

skip_rests : IsRestful skip_plan
skip_rests s t xs v idle runs turns =
    let here = skips.first.rests s idle in
    let script =
    by_turns skip_plan skips.Stage skips.next skips.succ skips.At skips.OpenAt skips.Opened skips.circle (xs ++ Out (ResultEnd 0) v ∷ []) skips.Resting s t [] here runs
    skips.first.closed turns in
    let (z, is, there) = last_of xs (Out (ResultEnd 0) v) skips.Resting s t here runs script in answered v z t is there

skip_is_regular : IsRegular skip_plan
skip_is_regular = skip_is_realised.suits.regular

-- the stages
no_import : (i h : ℕ) → StandsIn skip_plan (ImportEnd i h) → ⊥
no_import i h stands = let clash : ResultEnd 0 ≡ ImportEnd i h = one_port (ImportEnd i h) tt stands in cc clash

no_imports : (x : Imported) → Contains skip_plan.imports x → ⊥
no_imports x (k, within, is) = omega (arith, within)

is_first : IsStage twice_plan 0 first_stage
is_first =
    record {
      region = cut_region first_out twice_plan skip_plan first_is_cut;
      outside = refl;
      outcome = tt;
      regular = skip_is_regular;
      restful = skip_rests;
      loyal = λ n i there number. absurd (none_in_empty n there);
      run_by = λ stands. refl;
      imports = λ i there. absurd (no_imports i there);
      names = tt;
      ports = λ i h stands. absurd (no_import i h stands);
    }

is_second : IsStage twice_plan 0 second_stage
is_second =
    record {
      region = cut_region second_out twice_plan skip_plan second_is_cut;
      outside = refl;
      outcome = tt;
      regular = skip_is_regular;
      restful = skip_rests;
      loyal = λ n i there number. absurd (none_in_empty n there);
      run_by = λ stands. refl;
      imports = λ i there. absurd (no_imports i there);
      names = tt;
      ports = λ i h stands. absurd (no_import i h stands);
    }

abbrev both : List Stage
both = first_stage ∷ second_stage ∷ []

each_stage : (g : Stage) → Contains both g → IsStage twice_plan 0 g
each_stage g (zero, l, is) = subst (IsStage twice_plan 0) is is_first
each_stage g (suc zero, l, is) = subst (IsStage twice_plan 0) is is_second
each_stage g (suc (suc n), l, is) = absurd (omega (arith, l))

asked_once : (g e : Stage) → Contains both g → Contains both e → g.asked_at ≡ e.asked_at → g ≡ e
asked_once g e (zero, l, is) (zero, k, also) same = sym is ∙ also
asked_once g e (suc zero, l, is) (suc zero, k, also) same = sym is ∙ also
asked_once g e (zero, l, is) (suc zero, k, also) same =
    let clash : 0 ≡ 1 = ap (λ (x : Stage). x.asked_at) is ∙ (same ∙ sym (ap (λ (x : Stage). x.asked_at) also)) in absurd (omega (arith, clash))
asked_once g e (suc zero, l, is) (zero, k, also) same =
    let clash : 1 ≡ 0 = ap (λ (x : Stage). x.asked_at) is ∙ (same ∙ sym (ap (λ (x : Stage). x.asked_at) also)) in absurd (omega (arith, clash))
asked_once g e (suc (suc n), l, is) other same = absurd (omega (arith, l))
asked_once g e other (suc (suc n), l, is) same = absurd (omega (arith, l))

every_session : (p : Phase) (n : ℕ) (e : Session) → session_of twice_form p n ≡ Some e
    → (g : Stage) × Contains both g × (g.asked_at ≡ e.asked_at) × (g.plan.outcome ≡ e.ty)
every_session First n e is =
    (first_stage, (0, omega arith, refl), ap (λ (x : Session). x.asked_at) (same_Some _ e is), ap (λ (x : Session). x.ty) (same_Some _ e is))
every_session Second n e is =
    (second_stage, (1, omega arith, refl), ap (λ (x : Session). x.asked_at) (same_Some _ e is), ap (λ (x : Session). x.ty) (same_Some _ e is))
every_session p n e is = absurd (none-some e is)

of_first : IsOfStage both (PartEnd 0 0) (PartEnd 1 0)
of_first = (first_stage, ResultEnd 0, PartEnd 0 0, (0, omega arith, refl), (0, omega arith, refl), refl, refl)

of_second : IsOfStage both (PartEnd 0 1) (PartEnd 2 0)
of_second = (second_stage, ResultEnd 0, PartEnd 0 0, (1, omega arith, refl), (0, omega arith, refl), refl, refl)

abbrev OwnOrStage : Joint → Type 0
OwnOrStage j = ((j.asking ≡ ResultEnd 0) × (j.serving ≡ PartEnd 0 2)) ⊎ IsOfStage both j.asking j.serving

every_joint : (a b : End) → Contains twice_plan.joints (joint a b) → OwnOrStage (joint a b)
every_joint a b (zero, l, is) = subst OwnOrStage is (inl (refl, refl))
every_joint a b (suc zero, l, is) = subst OwnOrStage is (inr of_first)
every_joint a b (suc (suc zero), l, is) = subst OwnOrStage is (inr of_second)
every_joint a b (suc (suc (suc n)), l, is) = absurd (omega (arith, l))

every_part : (i : ℕ) (k : Part) → slice_get twice_plan.parts i ≡ Some k
    → (i ≡ 0) ⊎ ((g : Stage) × (j : ℕ) × Contains both g × (g.cut.number i ≡ Some j))
every_part zero k is = inl refl
every_part (suc zero) k is = inr (first_stage, 0, (0, omega arith, refl), refl)
every_part (suc (suc zero)) k is = inr (second_stage, 0, (1, omega arith, refl), refl)
every_part (suc (suc (suc i))) k is = absurd (none-some k is)

all_fit : All LiteralFits twice_plan.parts
all_fit zero d within = tt
all_fit (suc zero) d within = tt
all_fit (suc (suc zero)) d within = tt
all_fit (suc (suc (suc i))) d within = absurd (omega (arith, within))

pub twice_is_node : TwiceIsNode
twice_is_node =
    record {
      right = twice_is_right;
      own = refl;
      outcome = refl;
      done = tt;
      literals = all_fit;
      ground = tt;
      names = tt;
      stages = each_stage;
      one = asked_once;
      staged = every_session;
      result = (0, omega arith, refl);
      joints = every_joint;
      parts = every_part;
    }

-- one stage is missing
only_first : (g : Stage) → Contains (first_stage ∷ []) g → g.asked_at ≡ 1 → ⊥
only_first g (zero, l, is) asked = let clash : 0 ≡ 1 = ap (λ (x : Stage). x.asked_at) is ∙ asked in omega (arith, clash)
only_first g (suc n, l, is) asked = omega (arith, l)

pub one_is_missing : OneIsMissing
one_is_missing node = let (g, has, asked, ty) = node.staged Second 0 _ refl in only_first g has asked

pub twice_is_open : TwiceIsOpen
twice_is_open = ground_node_is_open twice_plan 0 twice_form (first_stage ∷ second_stage ∷ []) twice_is_node

-- the child that lacks the end at which f asks
not_there : StandsIn deaf_stage.plan (ImportEnd 0 0) → ⊥
not_there (j, (zero, within, is), stands) = let clash : stands_in (ImportEnd 0 0) j ≡ false = ap (stands_in (ImportEnd 0 0)) (sym is) in cc (stands, clash)
not_there (j, (suc n, within, is), stands) = omega (arith, within)

pub deaf_is_none : DeafIsNone
deaf_is_none stage =
    let result : StandsIn deaf_stage.plan (ImportEnd 0 1) = (joint (ResultEnd 0) (ImportEnd 0 1), (0, omega arith, refl), refl) in
    let argument : StandsIn function_plan (ImportEnd 0 0) = (joint (ImportEnd 0 0) (PartEnd 1 0), (2, omega arith, refl), refl) in
    not_there ((stage.heard 0 1 0 0 _ result refl refl refl).1 argument)

-- a Share that serves both callers, state by state
abbrev begun : Tokens
begun = with_token both_plan (ResultEnd 0) Request (Some 0) at_first

abbrev first_asked : Tokens
first_asked = fired both_plan 0 (row (Req 2) (at First 0) (λ v. put (Req 0) 0)) 0 begun

abbrev passed_on : Tokens
passed_on = fired both_plan 1 (row (Req 1) (at Rest 0) (put (Req 0))) 0 first_asked

abbrev done_once : Tokens
done_once = fired both_plan 2 (row (Req 0) (at Rest 0) (λ v. put (Ans 0) 0)) 0 passed_on

abbrev passed_back : Tokens
passed_back = fired both_plan 1 (row (Ans 0) (at Rest 0) (put (Ans 1))) 0 done_once

abbrev second_asked : Tokens
second_asked = fired both_plan 0 (row (Ans 0) (at Second 0) (λ v. put (Req 1) 0)) 0 passed_back

abbrev passed_again : Tokens
passed_again = fired both_plan 1 (row (Req 2) (at Rest 1) (put (Req 0))) 0 second_asked

abbrev done_twice : Tokens
done_twice = fired both_plan 2 (row (Req 0) (at Rest 0) (λ v. put (Ans 0) 0)) 0 passed_again

abbrev at_last : Tokens
at_last = fired both_plan 1 (row (Ans 0) (at Rest 1) (put (Ans 2))) 0 done_twice

abbrev once_there : List Element
once_there = In (ResultEnd 0) 0 ∷ Fire 0 (Req 2) ∷ Fire 1 (Req 1) ∷ Fire 2 (Req 0) ∷ []

idle_first : IsIdle both_plan at_first
idle_first = ((λ way e. refl), (λ i. refl))

runs_once : Runs both_plan once_there at_first done_once
runs_once = (
  begun,
  (tt, (omega arith, refl)),
  (
    first_asked,
    (0, _, refl, refl, refl),
    (
      passed_on,
      (0, _, refl, refl, refl),
      (done_once, (0, _, refl, refl, refl), refl),
    ),
  ),
)

abbrev twice_there : List Element
twice_there = In (ResultEnd 0) 0 ∷ Fire 0 (Req 2) ∷ Fire 1 (Req 1) ∷ Fire 2 (Req 0) ∷ Fire 1 (Ans 0) ∷ Fire 0 (Ans 0) ∷ Fire 1 (Req 2) ∷ Fire 2 (Req 0) ∷ []

runs_twice : Runs both_plan twice_there at_first done_twice
runs_twice = (
  begun,
  (tt, (omega arith, refl)),
  (
    first_asked,
    (0, _, refl, refl, refl),
    (
      passed_on,
      (0, _, refl, refl, refl),
      (
        done_once,
        (0, _, refl, refl, refl),
        (
          passed_back,
          (0, _, refl, refl, refl),
          (
            second_asked,
            (0, _, refl, refl, refl),
            (
              passed_again,
              (0, _, refl, refl, refl),
              (done_twice, (0, _, refl, refl, refl), refl),
            ),
          ),
        ),
      ),
    ),
  ),
)

pub shared_for_both : SharedForBoth
shared_for_both = (
  (λ loyal.
      let is = loyal at_first done_twice at_last twice_there (Ans 0) idle_first runs_twice ((refl, tt), tt) (0, _, refl, refl, refl) (omega arith) in
      let clash : 1 ≡ 0 = is in omega (arith, clash)),
  (λ loyal.
      let is = loyal at_first done_once passed_back once_there (Ans 0) idle_first runs_once ((refl, tt), tt) (0, _, refl, refl, refl) (omega arith) in
      let clash : 0 ≡ 1 = is in omega (arith, clash)),
)
