-- What is open at imports of the whole is open in the body (`Shared`), and nothing else is but its result and its variable. So the block
-- keeps its turns where the body does, and the body where the block does, the server's supply is in turn and the body's result is open.
use Rattle.std.specs.Prelude.{◌≡◌, ◌≢◌, All, ℕ, Bool, true, false, List, [], ◌∷◌, Some, nat_eq, slice_get, if◌then◌else◌}
use Rattle.std.proofs.Common.{refl, sym, ap, subst, ◌∙◌}
use Rattle.std.proofs.lemmas.Bool.{eqb-true, eq-eqb}
use Rattle.std.proofs.lemmas.Option.{same_Some}
use Rattle.gos_types.specs.Types.{Type'}
use Rattle.gos_types.specs.Events.{Direction, Request, Answer}
use Rattle.gos_model.specs.Typing.{Imported}
use Rattle.gos_plan.specs.Kinds.{Contact}
use Rattle.gos_plan.specs.Firing.{Slot}
use Rattle.gos_plan.specs.Plans.{End, ImportEnd, ResultEnd, Plan, contact_at, same_end}
use Rattle.gos_plan.specs.Tokens.{Tokens, Element, Out, In}
use Rattle.gos_plan.specs.TokenBits.{LiteralFits}
use Rattle.gos_plan.proofs.JointLemmas.{same_is}
use Rattle.gos_joining.specs.webs.Cutting.{lies_at, StandsIn}
use Rattle.gos_joining.proofs.webs.CutLemmas.{place_there}
use Rattle.gos_realises.specs.realises.Regular.{Pass, pass, way_in, way_out, is_request, is_open, KeepsTurnsOf, KeepsTurns, InputsKeepTurns}
use Rattle.gos_realises.specs.realises.Realises.{NamesDiffer}
use Rattle.gos_realises.proofs.realises.RingLemmas.{after}
use Rattle.gos_nodes.specs.windows.OpenNodes.{IsHeard}
use Rattle.gos_nodes.proofs.parallel.GateLemmas.{gate}
use Rattle.gos_nodes.proofs.parallel.HungLemmas.{Local, fires, puts_out, takes_in, import_contact}
use Rattle.gos_nodes.proofs.windows.PortLemmas.{stands_place}
use Rattle.gos_nodes.proofs.windows.MeetLemmas.{Meets, met_joined, HasPorts, AreFollowed, met_at, met_contact, met_contacts, met_import, followed_pass, alike}
use Rattle.gos_realises.proofs.realises.InputLemmas.{InputTurns}
use Rattle.gos_realises.proofs.realises.PassLemmas.{open_otherwise}
use Rattle.gos_sharing.proofs.buffers.BranchLemmas.{place_stands}
use Rattle.gos_nodes.proofs.windows.TurnLemmas.{Turned, closed_turned, import_kept, imports_turned, open_before, comes_so, import_result, region_turned}
use Rattle.gos_nodes.proofs.parallel.LinkedLemmas.{past_all}
use Rattle.gos_nodes.specs.blocks.Block.{Block, IsBlock}
use Rattle.gos_nodes.proofs.blocks.RegionLemmas as region
use Rattle.gos_nodes.proofs.blocks.RegionLemmas.{body_done, hung_body}
use Rattle.gos_nodes.proofs.blocks.StepLemmas.{Supplies, Step, of_body, asked, told, starts, supplies, ended, lost, IsSeen}
use Rattle.gos_nodes.proofs.blocks.LinkedLemmas.{Driven, when_working, seen, body_asked, own_after, supplied_turn, supplied_driven, supplied_others}

pub body_ports : (r : Plan) (b : Block) → IsBlock r b → IsHeard b.cut r b.body → NamesDiffer r.imports → NamesDiffer b.body.imports → HasPorts r b.cut b.body
body_ports r b is heard whole_names names =
    record {
      right = is.cut.right;
      whole_right = is.cut.whole_right;
      names = names;
      whole_names = whole_names;
      ports = λ i h k stands at. by_which i h k stands at (region.which b i);
      joined = λ i h stands.
          let (a, named) = stands_place b.body is.cut.right (ImportEnd i h) stands in
          place_stands r (b.cut.outer (ImportEnd i h)) (lies_at b.cut a) (place_there b.cut r b.body is.cut (ImportEnd i h) a named);
      heard = heard;
    }
  where
    by_which : (i h k : ℕ) → StandsIn b.body (ImportEnd i h) → b.cut.outer (ImportEnd i h) ≡ ImportEnd k h → region.Which b i
        → slice_get r.imports k ≡ slice_get b.body.imports i
    by_which i h k stands at (region.variable same) = let bad = sym (region.served_at r b is i h same) ∙ at in absurd (cc bad)
    by_which i h k stands at (region.other apart) =
        let (j, leads, slices) = is.imports i h apart stands in
        let both : ImportEnd j h ≡ ImportEnd k h = sym leads ∙ at in
        let one : j ≡ k = cc both in
        ap (slice_get r.imports) (sym one) ∙ sym slices

-- the passes of a body that are none of its variable
abbrev pub is_variable : Block → End → Bool
is_variable b (ImportEnd i h) = nat_eq i b.place
is_variable b e = false

abbrev pub beside : Block → List Pass → List Pass
beside b [] = []
beside b (x ∷ own) = if is_variable b x.end then beside b own else x ∷ beside b own

module _ (b : Block) where
  other_import : (i : ℕ) → i ≢ b.place → nat_eq i b.place ≡ false
  other_import i apart = by_test (nat_eq i b.place) refl
    where
      by_test : (t : Bool) → nat_eq i b.place ≡ t → t ≡ false
      by_test true e = absurd (apart (eqb-true i b.place e))
      by_test false e = refl

  -- they tell what is open at all other ends
  same_then : (x : Pass) (own : List Pass) (e : End) → is_variable b e ≡ false → is_open (beside b own) e ≡ is_open own e
      → is_open (beside b (x ∷ own)) e ≡ is_open (x ∷ own) e
  same_then x own e other rest = by_test (is_variable b x.end) refl
    where
      by_test : (t : Bool) → is_variable b x.end ≡ t → is_open (if t then beside b own else x ∷ beside b own) e ≡ is_open (x ∷ own) e
      by_test true here =
          let differs : x.end ≡ e → ⊥ = λ same. (let clash : true ≡ false = sym here ∙ (ap (is_variable b) same ∙ other) in cc clash) in
          rest ∙ sym (open_otherwise x.end e x.way own differs)
      by_test false there = λ i. if same_end x.end e then is_request x.way else rest i

  pub beside_same : (own : List Pass) (e : End) → is_variable b e ≡ false → is_open (beside b own) e ≡ is_open own e
  beside_same [] e other = refl
  beside_same (x ∷ own) e other = same_then x own e other (beside_same own e other)

  pub beside_import : (own : List Pass) (i h : ℕ) → i ≢ b.place → is_open (beside b own) (ImportEnd i h) ≡ is_open own (ImportEnd i h)
  beside_import own i h apart = beside_same own (ImportEnd i h) (other_import i apart)

  pub beside_pass : (own : List Pass) (i h : ℕ) (way : Direction) → i ≢ b.place
      → beside b (pass (ImportEnd i h) way ∷ own) ≡ pass (ImportEnd i h) way ∷ beside b own
  beside_pass own i h way apart = ap (λ (t : Bool). if t then beside b own else pass (ImportEnd i h) way ∷ beside b own) (other_import i apart)

  pub beside_variable : (own : List Pass) (h : ℕ) (way : Direction) → beside b (pass (ImportEnd b.place h) way ∷ own) ≡ beside b own
  beside_variable own h way =
      ap (λ (t : Bool). if t then beside b own else pass (ImportEnd b.place h) way ∷ beside b own) (eq-eqb b.place b.place refl)

module _ (r : Plan) (b : Block) (is : IsBlock r b) (ports : HasPorts r b.cut b.body) where
  pub record Shared (past own : List Pass) : Type 0 where
    pub imports : AreFollowed r b.cut b.body (beside b own) past
    pub only :
        (k n : ℕ) → is_open past (ImportEnd k n) ≡ true
        → (i : ℕ) × Meets r b.cut b.body i n × (b.cut.outer (ImportEnd i n) ≡ ImportEnd k n)

  pub shared_first : Shared [] []
  shared_first =
      record { imports = record { same = λ i h k meets at. refl; met = λ i h up. absurd (cc up) }; only = λ k n up. absurd (cc up) }

  -- an import that leads to one of the whole isn't the variable
  pub not_place : (i h k : ℕ) → b.cut.outer (ImportEnd i h) ≡ ImportEnd k h → i ≢ b.place
  not_place i h k at same = let bad = sym (region.served_at r b is i h same) ∙ at in cc bad

  pub meets_apart : (i h : ℕ) → Meets r b.cut b.body i h → i ≢ b.place
  meets_apart i h meets = let (k, at, same) = met_at r b.cut b.body ports i h meets in not_place i h k at

  -- so it is open in the body where it is in the whole
  pub import_same : (past own : List Pass) → Shared past own → (i h k : ℕ) → Meets r b.cut b.body i h → b.cut.outer (ImportEnd i h) ≡ ImportEnd k h
      → is_open own (ImportEnd i h) ≡ is_open past (ImportEnd k h)
  import_same past own shared i h k meets at = sym (beside_import b own i h (not_place i h k at)) ∙ shared.imports.same i h k meets at

  -- what passes an import
  pub shared_pass : (past own : List Pass) → Shared past own → (i h k : ℕ) → Meets r b.cut b.body i h → b.cut.outer (ImportEnd i h) ≡ ImportEnd k h → (way : Direction)
      → Shared (pass (ImportEnd k h) way ∷ past) (pass (ImportEnd i h) way ∷ own)
  shared_pass past own shared i h k meets at way =
      record {
        imports =
            subst (λ (l : List Pass). AreFollowed r b.cut b.body l (pass (ImportEnd k h) way ∷ past)) (sym (beside_pass b own i h way (not_place i h k at)))
            (followed_pass r b.cut b.body ports (beside b own) past shared.imports i h k meets at way);
        only = λ m n up. only m n (same_end (ImportEnd k h) (ImportEnd m n)) refl up;
      }
    where
      only : (m n : ℕ) (t : Bool) → same_end (ImportEnd k h) (ImportEnd m n) ≡ t → (if t then is_request way else is_open past (ImportEnd m n)) ≡ true
          → (j : ℕ) × Meets r b.cut b.body j n × (b.cut.outer (ImportEnd j n) ≡ ImportEnd m n)
      only m n true t up =
          let both : ImportEnd k h ≡ ImportEnd m n = same_is (ImportEnd k h) (ImportEnd m n) t in
          let shake : h ≡ n = cc both in
          let moved = subst (λ (y : ℕ). Meets r b.cut b.body i y × (b.cut.outer (ImportEnd i y) ≡ ImportEnd m n)) shake (meets, at ∙ both) in
          (i, moved.0, moved.1)
      only m n false t up = shared.only m n up

  same_shared : (past own before old : List Pass) → Shared before old → ((k h : ℕ) → is_open past (ImportEnd k h) ≡ is_open before (ImportEnd k h))
      → ((k h : ℕ) → is_open (beside b own) (ImportEnd k h) ≡ is_open (beside b old) (ImportEnd k h)) → Shared past own
  same_shared past own before old shared whole inside =
      record {
        imports =
            record {
              same = λ i h k meets at. inside i h ∙ (shared.imports.same i h k meets at ∙ sym (whole k h));
              met = λ i h up. shared.imports.met i h (sym (inside i h) ∙ up);
            };
        only = λ k h up. shared.only k h (sym (whole k h) ∙ up);
      }

  -- turns: those of the body are those of its variable and of its other imports
  pub joined_turned : (own other : List Pass) → Turned b.body other → ((i n : ℕ) → i ≢ b.place → is_open own (ImportEnd i n) ≡ is_open other (ImportEnd i n))
      → KeepsTurnsOf b.server.supply (λ n. is_open own (ImportEnd b.place n)) → is_open own (ResultEnd 0) ≡ true → Turned b.body own
  joined_turned own other kept same variable up = imports_turned b.body (body_done r b is) own each (λ i h open_here. up)
    where
      of_variable : (i : ℕ) (x : Imported) → slice_get b.body.imports i ≡ Some x → i ≡ b.place → KeepsTurnsOf x.ty (λ n. is_open own (ImportEnd i n))
      of_variable i x at place =
          let one : x ≡ b.variable = same_Some x b.variable (sym at ∙ (ap (slice_get b.body.imports) place ∙ is.there)) in
          let type : b.server.supply ≡ x.ty = sym (ap (λ (y : Imported). y.ty) one ∙ is.type) in
          subst (λ (t : Type'). KeepsTurnsOf t (λ n. is_open own (ImportEnd i n))) type
          (subst (λ (m : ℕ). KeepsTurnsOf b.server.supply (λ n. is_open own (ImportEnd m n))) (sym place) variable)

      of_other : (i : ℕ) (x : Imported) → slice_get b.body.imports i ≡ Some x → i ≢ b.place → KeepsTurnsOf x.ty (λ n. is_open own (ImportEnd i n))
      of_other i x at apart =
          subst (KeepsTurnsOf x.ty) (λ l n. sym (same i n apart) l) (import_kept b.body other kept i x at)

      by_which : (i : ℕ) (x : Imported) → slice_get b.body.imports i ≡ Some x → region.Which b i → KeepsTurnsOf x.ty (λ n. is_open own (ImportEnd i n))
      by_which i x at (region.variable place) = of_variable i x at place
      by_which i x at (region.other apart) = of_other i x at apart

      each : (i h : ℕ) (x : Imported) → slice_get b.body.imports i ≡ Some x → is_open own (ImportEnd i h) ≡ true → KeepsTurnsOf x.ty (λ n. is_open own (ImportEnd i n))
      each i h x at open_here = by_which i x at (region.which b i)

  -- the variable keeps its turns, as the server's state says
  pub variable_turned : (past own : List Pass) (s : Tokens) → Driven b past own s → is_open own (ResultEnd 0) ≡ true
      → KeepsTurnsOf b.server.supply (λ n. is_open own (ImportEnd b.place n))
  variable_turned past own s driven up =
      subst (KeepsTurnsOf b.server.supply) (λ l n. sym (driven.variable n) l) (is.server.turns (s.state b.own) (sym driven.result ∙ up))

  pub body_turned : (past own : List Pass) → Shared past own → is_open own (ResultEnd 0) ≡ true
      → KeepsTurnsOf b.server.supply (λ n. is_open own (ImportEnd b.place n)) → Turned r past → Turned b.body own
  body_turned past own shared up variable turned =
      joined_turned own (beside b own)
      (region_turned r b.cut b.body ports (body_done r b is) (beside b own) past shared.imports (λ i h k meets at n up. shared.only k n up)
      (beside_same b own (ResultEnd 0) refl ∙ up) turned) (λ i n apart. sym (beside_import b own i n apart)) variable up

  pub whole_turned : (past own : List Pass) (s : Tokens) → Driven b past own s → Shared past own → Turned b.body own → Turned r past
  whole_turned past own s driven shared body_kept = imports_turned r is.done past kept led
    where
      kept : (k h : ℕ) (x : Imported) → slice_get r.imports k ≡ Some x → is_open past (ImportEnd k h) ≡ true → KeepsTurnsOf x.ty (λ n. is_open past (ImportEnd k n))
      kept k h x at up =
          let (i, meets, leads) = shared.only k h up in
          let apart = not_place i h k leads in
          subst (KeepsTurnsOf x.ty)
          (λ l n. (sym (beside_import b own i n apart) ∙ alike r b.cut b.body ports (beside b own) past shared.imports i h k meets leads (λ n up. shared.only k n up) n) l)
          (import_kept b.body own body_kept i x (sym (met_import r b.cut b.body ports i h k meets leads) ∙ at))

      led : (k h : ℕ) → is_open past (ImportEnd k h) ≡ true → is_open past (ResultEnd 0) ≡ true
      led k h up =
          let (i, meets, leads) = shared.only k h up in
          let (c, there) = met_contact r b.cut b.body ports i h meets in
          let runs = sym driven.result ∙ import_result b.body (body_done r b is) own body_kept i h c there (import_same past own shared i h k meets leads ∙ up) in
          (when_working b.server.runs is.server.rests (is_open past (ResultEnd 0)) (s.state b.own).phase (gate s Request) (gate s Answer) driven.stage runs).0

  busy : (past own : List Pass) → Shared past own → Turned b.body own → (k h : ℕ) (c : Contact) → contact_at r (ImportEnd k h) ≡ Some c
      → KeepsTurns r past (pass (ImportEnd k h) (way_in (contact_at r (ImportEnd k h)))) → is_open own (ResultEnd 0) ≡ true
  busy past own shared kept k h c there turn =
      let (n, up, which) = open_before r past k h c there turn in
      let (j, here, at_j) = shared.only k n up in
      let (x, inside) = met_contact r b.cut b.body ports j n here in
      import_result b.body (body_done r b is) own kept j n x inside (import_same past own shared j n k here at_j ∙ up)

  -- inputs of the body keep turns
  pub body_input : (past own : List Pass) (s : Tokens) → Driven b past own s → Shared past own → Turned b.body own → (i h k : ℕ) → Meets r b.cut b.body i h
      → b.cut.outer (ImportEnd i h) ≡ ImportEnd k h → KeepsTurns r past (pass (ImportEnd k h) (way_in (contact_at r (ImportEnd k h))))
      → KeepsTurns b.body own (pass (ImportEnd i h) (way_in (contact_at b.body (ImportEnd i h))))
  body_input past own s driven shared kept i h k meets at turn =
      let (c, inside) = met_contact r b.cut b.body ports i h meets in
      let contacts = met_contacts r b.cut b.body ports i h (ImportEnd k h) meets at in
      let way = way_in (contact_at r (ImportEnd k h)) in
      let up = busy past own shared kept k h c (contacts ∙ inside) turn in
      let next = shared_pass past own shared i h k meets at way in
      let variable =
      subst (KeepsTurnsOf b.server.supply)
      (λ l n.
      sym (open_otherwise (ImportEnd i h) (ImportEnd b.place n) way own (λ e. let same : i ≡ b.place = cc e in not_place i h k at same)) l)
      (variable_turned past own s driven up) in
      subst (λ o. KeepsTurns b.body own (pass (ImportEnd i h) (way_in o))) contacts (
        comes_so past own (ImportEnd k h) (ImportEnd i h) way (import_same past own shared i h k meets at) turn.0,
        body_turned (pass (ImportEnd k h) way ∷ past) (pass (ImportEnd i h) way ∷ own) next up variable turn.1,
      )

  body_closed : (past own : List Pass) (s : Tokens) → Driven b past own s → Shared past own → Turned b.body own → is_open own (ResultEnd 0) ≡ false → (i h : ℕ)
      → is_open own (ImportEnd i h) ≡ false
  body_closed past own s driven shared kept shut i h = by_which (region.which b i)
    where
      by_test : i ≢ b.place → (t : Bool) → is_open own (ImportEnd i h) ≡ t → t ≡ false
      by_test apart false t = refl
      by_test apart true up =
          let (c, inside) = met_contact r b.cut b.body ports i h (shared.imports.met i h (beside_import b own i h apart ∙ up)) in
          sym (import_result b.body (body_done r b is) own kept i h c inside up) ∙ shut

      by_which : region.Which b i → is_open own (ImportEnd i h) ≡ false
      by_which (region.other apart) = by_test apart (is_open own (ImportEnd i h)) refl
      by_which (region.variable same) =
          ap (λ (n : ℕ). is_open own (ImportEnd n h)) same ∙ (driven.variable h ∙ is.server.closed (s.state b.own) h (sym driven.result ∙ shut))

  module _ (literals : All LiteralFits r.parts) where
    local_shared : (x y : Element) (past own : List Pass) → Local b.cut r b.body x y → Shared past own → Shared (after r x past) (after b.body y own)
    local_shared x y past own (fires i j k number) shared = shared
    local_shared x y past own (puts_out i j k v stands leads slices) shared =
        subst (λ o. Shared (pass (ImportEnd j k) (way_out (contact_at r (ImportEnd j k))) ∷ past) (pass (ImportEnd i k) (way_out o) ∷ own))
        (import_contact (hung_body r b is) i j k stands leads)
        (shared_pass past own shared i k j (met_joined r b.cut b.body i k j stands leads) leads (way_out (contact_at r (ImportEnd j k))))
    local_shared x y past own (takes_in i j k v stands leads slices) shared =
        subst (λ o. Shared (pass (ImportEnd j k) (way_in (contact_at r (ImportEnd j k))) ∷ past) (pass (ImportEnd i k) (way_in o) ∷ own))
        (import_contact (hung_body r b is) i j k stands leads)
        (shared_pass past own shared i k j (met_joined r b.cut b.body i k j stands leads) leads (way_in (contact_at r (ImportEnd j k))))

    -- the server serves the variable
    supplied_shared : (slot : Slot) (s t : Tokens) (z : Supplies r b slot s t) (past own : List Pass) → Shared past own → Shared past (own_after r b is literals slot s t z own)
    supplied_shared slot s t z past own shared =
        let first = pass (ImportEnd b.place z.serves.at) (way_out (contact_at b.body (ImportEnd b.place z.serves.at))) ∷ own in
        same_shared past (own_after r b is literals slot s t z own) past own shared (λ k h. refl)
        (λ k h.
        ap (λ (l : List Pass). is_open l (ImportEnd k h))
        (beside_variable b first z.serves.back (way_in (contact_at b.body (ImportEnd b.place z.serves.back)))
        ∙ beside_variable b own z.serves.at (way_out (contact_at b.body (ImportEnd b.place z.serves.at)))))

    supplied_inputs : (slot : Slot) (s t : Tokens) (z : Supplies r b slot s t) (past own : List Pass) → Driven b past own s → Turned b.body own
        → InputsKeepTurns b.body own (Out (ImportEnd b.place z.serves.at) z.value ∷ In (ImportEnd b.place z.serves.back) (z.serves.number z.value) ∷ [])
    supplied_inputs slot s t z past own driven kept =
        let after_both = own_after r b is literals slot s t z own in
        let up : is_open own (ResultEnd 0) ≡ true = driven.result ∙ z.serves.running in
        let now = supplied_driven r b is literals slot s t z own past driven in (
          (
            supplied_turn r b is literals slot s t z own driven.variable,
            joined_turned after_both own kept (supplied_others r b is literals slot s t z own) (variable_turned past after_both t now up) up,
          ),
          tt,
        )

    pub shared_step : (x : Element) (s t : Tokens) (z : Step r b x s t) → IsSeen r b x s t z → (past own : List Pass) → Shared past own
        → Shared (after r x past) (past_all b.body (seen r b is literals x s t z) own)
    shared_step x s t (of_body x' y s' t' local sees same) seen_so past own shared = local_shared x' y past own local shared
    shared_step x s t (asked v s' t' small unseen state ask ans) seen_so past own shared =
        same_shared (pass (ResultEnd 0) (way_in (contact_at r (ResultEnd 0))) ∷ past) own past own shared (λ k h. refl) (λ k h. refl)
    shared_step x s t (told v s' t' unseen state ans none ask) seen_so past own shared =
        same_shared (pass (ResultEnd 0) (way_out (contact_at r (ResultEnd 0))) ∷ past) own past own shared (λ k h. refl) (λ k h. refl)
    shared_step x s t (starts s' t' z) seen_so past own shared =
        same_shared past (pass (ResultEnd 0) (way_in (contact_at b.body (ResultEnd 0))) ∷ own) past own shared (λ k h. refl) (λ k h. refl)
    shared_step x s t (supplies slot s' t' z) seen_so past own shared = supplied_shared slot s' t' z past own shared
    shared_step x s t (ended s' t' z) seen_so past own shared =
        same_shared past (pass (ResultEnd 0) (way_out (contact_at b.body (ResultEnd 0))) ∷ own) past own shared (λ k h. refl) (λ k h. refl)
    shared_step x s t (lost j k v s' t' c there none unseen same) seen_so past own shared = absurd seen_so

    local_inputs : (x y : Element) (past own : List Pass) (s : Tokens) → Local b.cut r b.body x y → Driven b past own s → Shared past own → Turned b.body own → InputTurns r past x → InputsKeepTurns b.body own (y ∷ [])
    local_inputs x y past own s (fires i j k number) driven shared kept turn = tt
    local_inputs x y past own s (puts_out i j k v stands leads slices) driven shared kept turn = tt
    local_inputs x y past own s (takes_in i j k v stands leads slices) driven shared kept turn =
        (body_input past own s driven shared kept i k j (met_joined r b.cut b.body i k j stands leads) leads turn, tt)

    pub seen_inputs : (x : Element) (s t : Tokens) (z : Step r b x s t) (past own : List Pass) → Driven b past own s → Shared past own → Turned b.body own → InputTurns r past x
        → InputsKeepTurns b.body own (seen r b is literals x s t z)
    seen_inputs x s t (of_body x' y s' t' local sees same) past own driven shared kept turn = local_inputs x' y past own s' local driven shared kept turn
    seen_inputs x s t (asked v s' t' small unseen state ask ans) past own driven shared kept turn = tt
    seen_inputs x s t (told v s' t' unseen state ans none ask) past own driven shared kept turn = tt
    seen_inputs x s t (starts s' t' z) past own driven shared kept turn =
        let shut : is_open own (ResultEnd 0) ≡ false = driven.result ∙ (ap b.server.runs z.rest ∙ is.server.rests) in (
          subst (λ w. KeepsTurns b.body own (pass (ResultEnd 0) w)) (sym (body_asked r b is literals))
              (shut, closed_turned b.body (body_done r b is) (pass (ResultEnd 0) Request ∷ own) (λ i h. body_closed past own s' driven shared kept shut i h)),
          tt,
        )
    seen_inputs x s t (supplies slot s' t' z) past own driven shared kept turn = supplied_inputs slot s' t' z past own driven kept
    seen_inputs x s t (ended s' t' z) past own driven shared kept turn = tt
    seen_inputs x s t (lost j k v s' t' c there none unseen same) past own driven shared kept turn = tt
