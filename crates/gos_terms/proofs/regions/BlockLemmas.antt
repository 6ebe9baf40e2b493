-- A node `new x : w in m`, or `new a[n] : w in m`, that is wired to supplies is made of its body, wired to them and to a name.
use Rattle.std.specs.Prelude.{◌≡◌, ◌≢◌, ℕ, zero, suc, ◌+◌, ◌-◌, ◌<◌, ◌⊎◌, Bool, true, false, List, [], ◌∷◌, ◌++◌, Option, Some, None, slice_get, nat_eq, Contains, if◌then◌else◌}
use Rattle.std.proofs.Common.{refl, sym, ◌∙◌, ap, subst, arith, inl, inr}
use Rattle.std.proofs.lemmas.Option.{none-some, same_Some, slice_get_within}
use Rattle.std.proofs.lemmas.List.Elements.{Contains-append_left, Contains-append_cases}
use Rattle.std.proofs.lemmas.Bool.{eqb-true, eq-eqb}
use Rattle.gos_types.specs.Types.{Type', Com, Exp, Var, Pair, Fun, IsDone}
use Rattle.gos_model.specs.Terms.{Name}
use Rattle.gos_model.specs.Typing.{Imported}
use Rattle.gos_nodes.specs.sessions.Sessions.{bits}
use Rattle.gos_check.specs.Nodes.{Numbered, Under, type_of_node}
use Rattle.gos_plan.specs.Kinds.{Part, Contact, asks, contacts_of, part_contacts}
use Rattle.gos_plan.specs.Plans.{End, PartEnd, ImportEnd, ResultEnd, Joint, Plan, contacts_of_part, contacts_of_import, turned_if, contact_at}
use Rattle.gos_plan.specs.Tokens.{IsPortEnd}
use Rattle.gos_plan.proofs.JointLemmas.{one_joint, contained}
use Rattle.gos_plan.proofs.ContactLemmas.{serves_is_not_asks, part_is_there}
use Rattle.gos_realises.specs.realises.Regular.{count}
use Rattle.gos_realises.specs.realises.Modules.{Supply}
use Rattle.gos_realises.proofs.realises.ToldLemmas.{there_is}
use Rattle.gos_realises.proofs.realises.PlaceLemmas.{place_of, contains_at}
use Rattle.gos_joining.specs.webs.Webs.{Dot, Of, Number, Within, Tie, tie, Way, here, along, joint, own_web}
use Rattle.gos_joining.specs.webs.Cutting.{Cut, IsOutside, StandsIn}
use Rattle.gos_joining.proofs.webs.WebLemmas.{asks_there}
use Rattle.gos_joining.specs.unions.Unions.{within}
use Rattle.gos_joining.proofs.unions.UnionLemmas.{in_image}
use Rattle.gos_nodes.proofs.windows.PortLemmas.{stands_contact}
use Rattle.gos_nodes.specs.folds.Folds.{joined_cut, with_joints}
use Rattle.gos_nodes.proofs.folds.RegionLemmas.{folded_joint}
use Rattle.gos_nodes.specs.parallel.Parallel.{IsJointOf, IsPartOf}
use Rattle.gos_supplies.specs.names.Names.{imported}
use Rattle.gos_nodes.specs.blocks.Block.{Block, IsBlock}
use Rattle.gos_nodes.proofs.blocks.ServerLemmas.{WhichContact, at_body, at_supply, at_run, body_contact, supply_contact, which_contact}
use Rattle.gos_compile.specs.Wiring.{Types, parts_of, answer_bits}
use Rattle.gos_terms.specs.wired.Wired.{Supplies, Source, Own, Supplied, Placing, IsFrom, placed, source_dot, result_ties, supply_ties, all_supply_ties, IsWired}
use Rattle.gos_terms.specs.wired.Wired as origins
use Rattle.gos_terms.proofs.wired.TieLemmas.{of_results}
use Rattle.gos_terms.specs.regions.Blocks.{port_plan, with_name, IsBound, HasBody, BlockIsWired, ArrayBlockIsWired}
use Rattle.gos_terms.proofs.regions.NumberingLemmas.{origin, import_there, import_is}
use Rattle.gos_terms.proofs.regions.FrameLemmas as frames
use Rattle.gos_terms.proofs.regions.FrameLemmas.{size, in_range_true, out_of_range, itself_true, own_part, back, laid, laid_end}
use Rattle.gos_terms.proofs.regions.ChildLemmas.{Sitting, child_parts, child_placing, child_plan, number_of, number_if, port_of, its_cut, its_outer, its_inner, its_fold, its_web, whole_web, IsPort, IsSitting, HasPorts}
use Rattle.gos_terms.proofs.regions.ChildLemmas as children
use Rattle.gos_terms.proofs.regions.FoldLemmas.{HasPlan, has_plan}
use Rattle.gos_terms.proofs.regions.CutLemmas.{region_is_cut}
use Rattle.gos_terms.proofs.regions.RegionLemmas.{lies_joined, IsIn, in_number, in_back, keeps_imports}
use Rattle.gos_terms.proofs.regions.HolderLemmas.{Holder, OneNumber, ManyNumbers, binding_of, supply_of, part_of, server_of, server_is, run_contact, holder_part, port_imports}
use Rattle.gos_terms.proofs.regions.BodyLemmas as bodies
use Rattle.gos_terms.proofs.regions.BodyLemmas.{block_port, block_port_end, port_below, port_end_below, below_port, done_contact, done_only, name_tie, turned_tie, of_name}

pub same_bits : (t : Type') → IsDone t → answer_bits t ≡ bits t
same_bits Com done = refl
same_bits (Exp w) done = refl
same_bits (Var w) done = absurd done
same_bits (Pair a b) done = absurd done
same_bits (Fun a b) done = absurd done

module _
    (types : Types) (i j : ℕ) (hold : Holder) (n : ℕ) (t : Type') (m : Numbered) (ns : List ℕ) (env : Supplies) (pl : Placing) (x : Name) (r : Plan)
    (is : IsWired types i j (Under t [] (binding_of hold) n m) ns env pl r)
    (done : IsDone t) (type_m : type_of_node m ≡ t) (type_n : types n ≡ supply_of hold) (bound : IsBound n m ns) where
  abbrev s : Sitting
  s = bodies.s types i j hold n t m ns env pl x done type_m type_n bound

  abbrev sits : IsSitting s
  sits = bodies.is_sitting types i j hold n t m ns env pl x done type_m type_n bound

  abbrev inner : Supplies
  inner = with_name n x (supply_of hold) env

  abbrev numbers : List ℕ
  numbers = ns ++ n ∷ []

  abbrev plc : Placing
  plc = child_placing s

  abbrev place : ℕ
  place = plc.import n 0

  abbrev variable : Imported
  variable = imported x (supply_of hold)

  abbrev v : ℕ
  v = answer_bits t

  abbrev own_part_is : Part
  own_part_is = part_of hold v

  abbrev served : ℕ
  served = count (supply_of hold)

  name_there : (k : ℕ) → nat_eq k n ≡ true → (inner k).plan ≡ port_plan x (supply_of hold)
  name_there k e = ap (λ (y : Supply). y.plan) (bodies.name_there types i j hold n t m ns env pl x done type_m type_n bound k e)

  its_name : (k : ℕ) → nat_eq k n ≡ true → (inner k).plan.imports ≡ variable ∷ []
  its_name k e = ap (λ (p : Plan). p.imports) (name_there k e) ∙ port_imports x (supply_of hold)

  same_n : nat_eq n n ≡ true
  same_n = eq-eqb n n refl

  parts_are : (k : ℕ) → slice_get (parts_of types (Under t [] (binding_of hold) n m)) k ≡ slice_get (own_part_is ∷ parts_of types m) k
  parts_are k = ap (λ (ps : List Part). slice_get (ps ++ parts_of types m) k) (holder_part hold t)

  driver : (slice_get r.parts (pl.own 0) ≡ Some own_part_is) × (pl.source (pl.own 0) ≡ Own 0)
  driver = is.parts own_part_is (Own 0) (parts_are 0)

  own_outside : (its_cut s r).number (pl.own 0) ≡ None
  own_outside =
      (λ a. number_of s.frame plc (driver.0 a) (driver.1 a))
      ∙ ap (λ (b : Bool). number_if b (0 - 1)) (out_of_range 1 (size s.frame) 0 (inl (omega arith)))

  own_contact : (h : ℕ) → contact_at r (PartEnd (pl.own 0) h) ≡ slice_get (part_contacts own_part_is) h
  own_contact h = ap (λ (y : Option Part). slice_get (contacts_of_part y) h) driver.0

  own_dot : (h : ℕ) → (whole_web s).at (PartEnd (pl.own 0) h) ≡ Within 0 (Of (PartEnd i h))
  own_dot h =
      let same : i + 0 ≡ i = omega arith in
      ap (λ (a : Source). source_dot i a h) driver.1 ∙ ap (λ (a : ℕ). Within 0 (Of (PartEnd a h))) same

  own_inner : (h : ℕ) → its_inner s r (PartEnd (pl.own 0) h) ≡ block_port_end served place h
  own_inner h = ap (λ (b : Bool). if b then block_port_end served place h else None) (eq-eqb (pl.own 0) (pl.own 0) refl)

  -- the result
  result_contact : contact_at (child_plan s) (ResultEnd 0) ≡ Some (asks 0 v)
  result_contact = ap (λ (u : Type'). turned_if (slice_get (contacts_of u) 0)) type_m ∙ done_contact t done

  result_port : IsPort s r (ResultEnd 0) (asks 0 v)
  result_port =
      record {
        outside = own_outside;
        inner = own_inner 0;
        contact = own_contact 0 ∙ body_contact (server_of hold v) v (server_is hold v);
        folded = (sym (own_dot 0), ap (back s.frame) (own_dot 0) ∙ own_part s.frame 0);
      }

  results : (h : ℕ) (c : Contact) → contact_at (child_plan s) (ResultEnd h) ≡ Some c → IsPort s r (ResultEnd h) c
  results zero c e = subst (λ (d : Contact). IsPort s r (ResultEnd 0) d) (same_Some (asks 0 v) c (sym result_contact ∙ e)) result_port
  results (suc h) c e = absurd (done_only t done h c (subst (λ (u : Type'). turned_if (slice_get (contacts_of u) (suc h)) ≡ Some c) type_m e))

  -- the variable
  variable_there : (slice_get (child_plan s).imports place ≡ Some variable) × (plc.origin place ≡ origin n 0)
  variable_there =
      import_there (child_parts s) inner numbers n 0 variable (bodies.bound_in types i j hold n t m ns env pl x done type_m type_n bound)
      (ap (λ (is : List Imported). slice_get is 0) (its_name n same_n))

  -- an import of the name is the variable
  only_import : (b : ℕ) (y : Imported) → slice_get (variable ∷ []) b ≡ Some y → (b ≡ 0) × (variable ≡ y)
  only_import zero y e = (refl, same_Some variable y e)
  only_import (suc b) y e = absurd (none-some y e)

  is_variable : (a : ℕ) (y : Imported) → slice_get (child_plan s).imports a ≡ Some y → nat_eq (plc.origin a).number n ≡ true
      → (place ≡ a) × (variable ≡ y)
  is_variable a y e named =
      let (has, at, home) = import_is (child_parts s) inner numbers sits.once a y e in
      let number : (plc.origin a).number ≡ n = eqb-true (plc.origin a).number n named in
      let (none, same) = only_import (plc.origin a).import y (ap (λ (is : List Imported). slice_get is (plc.origin a).import) (sym (its_name (plc.origin a).number named)) ∙ at) in
      ((λ b. plc.import (sym number b) (sym none b)) ∙ home, same)

  variable_contact_there : (h : ℕ) (c : Contact) → contact_at (child_plan s) (ImportEnd place h) ≡ Some c
      → (h < served) × (slice_get (part_contacts own_part_is) (suc h) ≡ Some c)
  variable_contact_there h c e =
      let there : slice_get (contacts_of (supply_of hold)) h ≡ Some c =
      sym (ap (λ (o : Option Imported). slice_get (contacts_of_import o) h) variable_there.0) ∙ e in
      (slice_get_within (contacts_of (supply_of hold)) h c there, supply_contact (server_of hold v) v (server_is hold v) h c there)

  outer_there : (h : ℕ) → its_outer s (ImportEnd place h) ≡ PartEnd (pl.own 0) (suc h)
  outer_there h =
      ap (λ (o : origins.Origin). port_of (nat_eq o.number n) (pl.own 0) h (ImportEnd (pl.import o.number o.import) h)) variable_there.1
      ∙ ap (λ (b : Bool). port_of b (pl.own 0) h (ImportEnd (pl.import n 0) h)) same_n

  named_laid : (e : End) → laid s.frame (Within (suc n) (Of e)) ≡ laid_end true i n e
  named_laid e = ap (λ (b : Bool). laid_end b i n e) same_n

  variable_port : (h : ℕ) (c : Contact) → contact_at (child_plan s) (ImportEnd place h) ≡ Some c → IsPort s r (ImportEnd place h) c
  variable_port h c e =
      let (lt, con) = variable_contact_there h c e in
      let outer = outer_there h in
      let stands : (its_web s).at (ImportEnd place h) ≡ Within (suc n) (Of (ImportEnd 0 h)) =
      ap (λ (o : origins.Origin). Within (suc o.number) (Of (ImportEnd o.import h))) variable_there.1 in
      record {
        outside = subst (λ (d : End). IsOutside (its_cut s r) d) (sym outer) own_outside;
        inner = ap (its_inner s r) outer ∙ (own_inner (suc h) ∙ port_end_below served place h lt);
        contact = ap (contact_at r) outer ∙ (own_contact (suc h) ∙ con);
        folded = (
          ap (laid s.frame) stands ∙ (named_laid (ImportEnd 0 h) ∙ (sym (own_dot (suc h)) ∙ ap (λ (d : End). (whole_web s).at d) (sym outer))),
          ap (λ (d : End). back s.frame ((whole_web s).at d)) outer
              ∙ (ap (back s.frame) (own_dot (suc h)) ∙ (own_part s.frame (suc h) ∙ (port_below served n h lt ∙ ap Some (sym stands)))),
        );
      }

  variables : (a h : ℕ) (c : Contact) → nat_eq (plc.origin a).number n ≡ true → contact_at (child_plan s) (ImportEnd a h) ≡ Some c
      → IsPort s r (ImportEnd a h) c
  variables a h c named e =
      let (y, at) = there_is (child_plan s).imports a h c e in
      let (same, of) = is_variable a y at named in
      subst (λ (b : ℕ). IsPort s r (ImportEnd b h) c) same
      (variable_port h c (ap (λ (b : ℕ). contact_at (child_plan s) (ImportEnd b h)) same ∙ e))

  -- the ties of the name
  whole_in : (u : Tie) → Contains (bodies.whole_dots types i j hold n t m ns env pl x done type_m type_n bound) u
      → Contains (whole_web s).ties (tie (Within 0 u.one) (Within 0 u.other))
  whole_in u has =
      Contains-append_left (within 0 (bodies.whole_dots types i j hold n t m ns env pl x done type_m type_n bound)) (all_supply_ties types env ns)
      (tie (Within 0 u.one) (Within 0 u.other))
      (in_image (λ (y : Tie). tie (Within 0 y.one) (Within 0 y.other)) (bodies.whole_dots types i j hold n t m ns env pl x done type_m type_n bound) u has)

  abbrev LaidWay : Tie → Type 0
  LaidWay u = Way (whole_web s).ties (laid s.frame u.one) (laid s.frame u.other)

  abbrev OwnDot : ℕ → Dot
  OwnDot h = Within 0 (Of (PartEnd i (suc h)))

  straight_way : (h : ℕ) → LaidWay (name_tie n h)
  straight_way h =
      subst (λ (d : Dot). Way (whole_web s).ties d (laid s.frame (Within (suc n) (Of (ImportEnd 0 h))))) (sym (named_laid (ResultEnd h)))
      (subst (λ (d : Dot). Way (whole_web s).ties (OwnDot h) d) (sym (named_laid (ImportEnd 0 h))) (here (OwnDot h)))

  turned_way : (h : ℕ) → LaidWay (turned_tie n h)
  turned_way h =
      subst (λ (d : Dot). Way (whole_web s).ties d (laid s.frame (Within (suc n) (Of (ResultEnd h))))) (sym (named_laid (ImportEnd 0 h)))
      (subst (λ (d : Dot). Way (whole_web s).ties (OwnDot h) d) (sym (named_laid (ResultEnd h))) (here (OwnDot h)))

  name_way : (u : Tie) → Contains (supply_ties types inner n) u → LaidWay u
  name_way u has =
      elim (Contains-append_cases (within (suc n) (own_web (inner n).plan).ties) (result_ties n 0 (count (types n))) u has) [
        | inl own ↦
            let (h, lt, which) = of_name hold n x u (subst (λ (p : Plan). Contains (within (suc n) (own_web p).ties) u) (name_there n same_n) own) in
            elim which [ inl same ↦ subst LaidWay same (straight_way h) | inr same ↦ subst LaidWay same (turned_way h) ]
        | inr later ↦
            let (h, low, high, same) = of_results n 0 (count (types n)) u later in
            let all = bodies.all_served types i j hold n t m ns env pl x done type_m type_n bound in
            let lt : h < served = omega (arith, high, all) in
            subst LaidWay (sym same)
            (subst (λ (d : Dot). Way (whole_web s).ties (Within 0 (Number n h)) d) (sym (named_laid (ResultEnd h)))
            (along (Within 0 (Number n h)) (Within 0 (Of (PartEnd i (suc h)))) (Within 0 (Of (PartEnd i (suc h))))
            (inl
            (whole_in (tie (Number n h) (Of (PartEnd i (suc h))))
            (bodies.variable_in types i j hold n t m ns env pl x done type_m type_n bound h lt)))
            (here (Within 0 (Of (PartEnd i (suc h)))))))
      ]

  ways : (k : ℕ) (u : Tie) → Contains numbers k → nat_eq k n ≡ true → Contains (supply_ties types inner k) u → LaidWay u
  ways k u has named has_u = name_way u (subst (λ (a : ℕ). Contains (supply_ties types inner a) u) (eqb-true k n named) has_u)

  -- the handshakes of the own part
  abbrev PortAt : ℕ → Contact → Type 0
  PortAt h c = (d : End) × IsPortEnd d × (its_outer s d ≡ PartEnd (pl.own 0) h) × (contact_at (child_plan s) d ≡ Some c)

  own_ports : (h : ℕ) (c : Contact) (y : Dot) → block_port served n h ≡ Some y → slice_get (part_contacts own_part_is) h ≡ Some c → PortAt h c
  own_ports zero c y stands e = (ResultEnd 0, tt, refl, result_contact ∙ (sym (body_contact (server_of hold v) v (server_is hold v)) ∙ e))
  own_ports (suc h) c y stands e = by_contact (which_contact (server_of hold v) v (server_is hold v) (suc h) c e)
    where
      by_contact : WhichContact (server_of hold v) v (suc h) c → PortAt (suc h) c
      by_contact (at_body first is_c) = absurd (omega (arith, first))
      by_contact (at_supply k same there) =
          let one : k ≡ h = omega (arith, same) in (
            ImportEnd place h,
            tt,
            outer_there h,
            ap (λ (o : Option Imported). slice_get (contacts_of_import o) h) variable_there.0
                ∙ (ap (slice_get (contacts_of (supply_of hold))) (sym one) ∙ there),
          )
      by_contact (at_run last is_c) =
          let low = below_port served n h y stands in
          let same : suc h ≡ suc served = last in absurd (omega (arith, low, same))

  ports : HasPorts s r
  ports =
      record {
        results = results;
        variables = variables;
        ways = ways;
        own = λ h c y stands con. own_ports h c y stands (sym (own_contact h) ∙ con);
      }

  -- Whose a part is.
  abbrev Whose : Source → Type 0
  Whose o = IsIn s.frame o ⊎ (o ≡ Own 0)

  whose : (y : Part) (o : Source) → IsFrom (parts_of types (Under t [] (binding_of hold) n m)) ns env y o → Whose o
  whose y (Own zero) has = inr refl
  whose y (Own (suc a)) has =
      let low = slice_get_within (own_part_is ∷ parts_of types m) (suc a) y (sym (parts_are (suc a)) ∙ has) in
      let less : suc a < 1 + size s.frame = omega (arith, low) in inl (in_range_true 1 (size s.frame) (suc a) (omega arith) less)
  whose y (Supplied a b) (has, at) = inl (bodies.outer_kept types i j hold n t m ns env pl x done type_m type_n bound a has)

  whole_result : (h : ℕ) → contact_at r (ResultEnd h) ≡ turned_if (slice_get (contacts_of t) h)
  whole_result h = ap (λ (u : Type'). turned_if (slice_get (contacts_of u) h)) is.outcome

  run_way : Way (whole_web s).ties (Within 0 (Of (ResultEnd 0))) (Within 0 (Of (PartEnd i (suc served))))
  run_way =
      along (Within 0 (Of (ResultEnd 0))) (Within 0 (Of (PartEnd i (suc served)))) (Within 0 (Of (PartEnd i (suc served))))
      (inl (whole_in (tie (Of (ResultEnd 0)) (Of (PartEnd i (suc served)))) (bodies.run_in types i j hold n t m ns env pl x done type_m type_n bound)))
      (here (Within 0 (Of (PartEnd i (suc served)))))

  run_joint : Contains r.joints (joint (ResultEnd 0) (PartEnd (pl.own 0) (suc served)))
  run_joint =
      (is.web.joints (ResultEnd 0) (PartEnd (pl.own 0) (suc served))).1 (
        0,
        v,
        whole_result 0 ∙ done_contact t done,
        own_contact (suc served) ∙ run_contact hold v,
        subst (λ (d : Dot). Way (whole_web s).ties (Within 0 (Of (ResultEnd 0))) d) (sym (own_dot (suc served))) run_way,
      )

  only_run : (b : End) → Contains r.joints (joint (ResultEnd 0) b) → b ≡ PartEnd (pl.own 0) (suc served)
  only_run b has =
      ap (λ (y : Joint). y.serving)
      (one_joint r [] r.joints (joint (ResultEnd 0) b) (joint (ResultEnd 0) (PartEnd (pl.own 0) (suc served))) (ResultEnd 0) is.web.right
      (contained r.joints (joint (ResultEnd 0) b) has) (contained r.joints (joint (ResultEnd 0) (PartEnd (pl.own 0) (suc served))) run_joint)
      (asks_there (ResultEnd 0) b) (asks_there (ResultEnd 0) (PartEnd (pl.own 0) (suc served))))

  -- What an end that asks stands for.
  abbrev Asker : End → Type 0
  Asker a = ((y : Dot) × (back s.frame ((whole_web s).at a) ≡ Some y)) ⊎ (a ≡ ResultEnd 0)

  own_asker : (h q c : ℕ) → slice_get (part_contacts own_part_is) h ≡ Some (asks q c) → Asker (PartEnd (pl.own 0) h)
  own_asker h q c e = by_contact (which_contact (server_of hold v) v (server_is hold v) h (asks q c) e)
    where
      by_contact : WhichContact (server_of hold v) v h (asks q c) → Asker (PartEnd (pl.own 0) h)
      by_contact (at_body first is_c) =
          subst (λ (k : ℕ). Asker (PartEnd (pl.own 0) k)) (sym first)
          (inl (Within 0 (Of (ResultEnd 0)), ap (back s.frame) (own_dot 0) ∙ own_part s.frame 0))
      by_contact (at_supply k same there) =
          let lt = slice_get_within (contacts_of (supply_of hold)) k (asks q c) there in
          subst (λ (l : ℕ). Asker (PartEnd (pl.own 0) l)) (sym same)
          (inl (
            Within (suc n) (Of (ImportEnd 0 k)),
            ap (back s.frame) (own_dot (suc k)) ∙ (own_part s.frame (suc k) ∙ port_below served n k lt),
          ))
      by_contact (at_run last is_c) = absurd (serves_is_not_asks 0 v q c (ap Some (sym is_c)))

  part_asker : (a h q c : ℕ) → contact_at r (PartEnd a h) ≡ Some (asks q c) → placed pl (pl.source a) ≡ a → Whose (pl.source a) → Asker (PartEnd a h)
  part_asker a h q c con back_at (inl one) = inl (in_back s.frame (omega arith) (pl.source a) h one)
  part_asker a h q c con back_at (inr own) =
      let same : pl.own 0 ≡ a = ap (placed pl) (sym own) ∙ back_at in
      subst (λ (b : ℕ). Asker (PartEnd b h)) same
      (own_asker h q c (sym (own_contact h) ∙ (ap (λ (b : ℕ). contact_at r (PartEnd b h)) same ∙ con)))

  result_asker : (h q c : ℕ) → turned_if (slice_get (contacts_of t) h) ≡ Some (asks q c) → Asker (ResultEnd h)
  result_asker zero q c e = inr refl
  result_asker (suc h) q c e = absurd (done_only t done h (asks q c) e)

  asker : (a : End) (q c : ℕ) → contact_at r a ≡ Some (asks q c) → Asker a
  asker (PartEnd a h) q c con =
      let (y, at) = part_is_there (slice_get r.parts a) h (asks q c) con in
      let (from, placed_at) = is.no_more a y at in part_asker a h q c con placed_at (whose y (pl.source a) from)
  asker (ImportEnd a h) q c con =
      let (y, at) = there_is r.imports a h (asks q c) con in
      let (has, got, home) = is.no_import a y at in
      let keep = bodies.outer_kept types i j hold n t m ns env pl x done type_m type_n bound (pl.origin a).number has in
      inl (
        Within (suc (pl.origin a).number) (Of (ImportEnd (pl.origin a).import h)),
        itself_true (frames.kept s.frame (pl.origin a).number) (Within (suc (pl.origin a).number) (Of (ImportEnd (pl.origin a).import h))) keep,
      )
  asker (ResultEnd h) q c con = result_asker h q c (sym (whole_result h) ∙ con)

  -- another import of the body is one of the whole
  record Other (a : ℕ) (y : Imported) : Type 0 where
    unnamed : nat_eq (plc.origin a).number n ≡ false
    at : slice_get r.imports (pl.import (plc.origin a).number (plc.origin a).import) ≡ Some y

  which_import : (a : ℕ) (y : Imported) → slice_get (child_plan s).imports a ≡ Some y → ((place ≡ a) × (variable ≡ y)) ⊎ Other a y
  which_import a y e = tested (nat_eq (plc.origin a).number n) refl
    where
      tested : (b : Bool) → nat_eq (plc.origin a).number n ≡ b → ((place ≡ a) × (variable ≡ y)) ⊎ Other a y
      tested true named = inl (is_variable a y e named)
      tested false unnamed = inr (record { unnamed = unnamed; at = (children.its_import s r sits ports is a y e unnamed).at })

  module _ (fresh : (y : Imported) → Contains r.imports y → y.name ≢ x) (h : HasPlan s r sits ports is) where
    abbrev body : Plan
    body = with_joints (child_plan s) h.joints

    abbrev cut : Cut
    cut = joined_cut (its_cut s r) h.joints

    abbrev block : Block
    block = record { own = pl.own 0; server = server_of hold (bits r.outcome); body = body; cut = cut; place = place; variable = variable }

    abbrev OneImport : ℕ → ℕ → Type 0
    OneImport a g = (b : ℕ) × (cut.outer (ImportEnd a g) ≡ ImportEnd b g) × (slice_get body.imports a ≡ slice_get r.imports b)

    one_import : (a g : ℕ) (y : Imported) → a ≢ place → slice_get body.imports a ≡ Some y → ((place ≡ a) × (variable ≡ y)) ⊎ Other a y → OneImport a g
    one_import a g y other at (inl (same, is_y)) = absurd (other (sym same))
    one_import a g y other at (inr there) = (
      pl.import (plc.origin a).number (plc.origin a).import,
      ap (λ (b : Bool). port_of b (pl.own 0) g (ImportEnd (pl.import (plc.origin a).number (plc.origin a).import) g)) there.unnamed,
      at ∙ sym there.at,
    )

    its_imports : (a g : ℕ) → a ≢ place → StandsIn body (ImportEnd a g) → OneImport a g
    its_imports a g other stands =
        let (con, at) = stands_contact body h.region.right (ImportEnd a g) stands in
        let (y, there) = there_is body.imports a g con at in one_import a g y other there (which_import a y there)

    its_others : (y : Imported) → Contains body.imports y → (y ≡ variable) ⊎ Contains r.imports y
    its_others y has =
        let (a, at) = place_of body.imports y has in by_case a (which_import a y at)
      where
        by_case : (a : ℕ) → ((place ≡ a) × (variable ≡ y)) ⊎ Other a y → (y ≡ variable) ⊎ Contains r.imports y
        by_case a (inl (same, is_y)) = inl (sym is_y)
        by_case a (inr there) = inr (contains_at r.imports (pl.import (plc.origin a).number (plc.origin a).import) y there.at)

    abbrev Joined : End → End → Type 0
    Joined a b = IsJointOf cut body a b ⊎ ((a ≡ ResultEnd 0) × (b ≡ PartEnd (pl.own 0) (suc served)))

    joined : (a b : End) → Contains r.joints (joint a b) → Asker a → Joined a b
    joined a b has (inl (y, stands)) =
        let (d, e, there, lies_d, lies_e) =
        folded_joint (its_fold s r) [] (whole_web s) (its_web s) r body a b y h.fold h.wired.web has (inl stands) in
        inl (d, e, there, lies_joined (its_cut s r) h.joints d ∙ lies_d, lies_joined (its_cut s r) h.joints e ∙ lies_e)
    joined a b has (inr same) = inr (same, only_run b (subst (λ (d : End). Contains r.joints (joint d b)) same has))

    whose_part : (a : ℕ) (y : Part) → slice_get r.parts a ≡ Some y → Whose (pl.source a) → placed pl (pl.source a) ≡ a
        → IsPartOf cut a ⊎ (a ≡ pl.own 0)
    whose_part a y at (inl one) back_at =
        let (b, e) = in_number s.frame plc y (pl.source a) one in
        inl (b, ap (λ (o : Option Part). number_of s.frame plc o (pl.source a)) at ∙ e)
    whose_part a y at (inr own) back_at = inr (sym back_at ∙ ap (placed pl) own)

    is_block : IsBlock r block
    is_block =
        record {
          cut = region_is_cut cut r body h.region;
          done = subst IsDone (sym is.outcome) done;
          outcome = type_m ∙ sym is.outcome;
          server = server_is hold (bits r.outcome);
          own =
              driver.0
              ∙ ap (λ (b : ℕ). Some (part_of hold b)) (same_bits t done ∙ ap bits (sym is.outcome));
          outside = own_outside;
          result = refl;
          there = variable_there.0;
          type = refl;
          served = outer_there;
          imports = its_imports;
          others = its_others;
          fresh = fresh;
          run = run_joint;
          joints = λ a b has. (let (q, c, con, con_b, way) = (is.web.joints a b).0 has in joined a b has (asker a q c con));
          parts =
              λ a y at.
              let (from, back_at) = is.no_more a y at in whose_part a y at (whose y (pl.source a) from) back_at;
        }

    has_body : HasBody types i j n m ns env (pl.own 0) (server_of hold (bits r.outcome)) x r
    has_body = record { block = block; placing = plc; at = refl; server = refl; name = refl; wired = h.wired; is_block = is_block; imports = keeps_imports s r h.joints }

holder_is_wired : (types : Types) (i j : ℕ) (hold : Holder) (n : ℕ) (t : Type') (m : Numbered) (ns : List ℕ) (env : Supplies) (pl : Placing) (x : Name) (r : Plan)
    → IsWired types i j (Under t [] (binding_of hold) n m) ns env pl r → IsDone t → type_of_node m ≡ t → types n ≡ supply_of hold → IsBound n m ns
    → ((y : Imported) → Contains r.imports y → y.name ≢ x) → HasBody types i j n m ns env (pl.own 0) (server_of hold (bits r.outcome)) x r
holder_is_wired types i j hold n t m ns env pl x r is done type_m type_n bound fresh =
    has_body types i j hold n t m ns env pl x r is done type_m type_n bound fresh
    (has_plan (bodies.s types i j hold n t m ns env pl x done type_m type_n bound) r
    (bodies.is_sitting types i j hold n t m ns env pl x done type_m type_n bound)
    (ports types i j hold n t m ns env pl x r is done type_m type_n bound) is)

pub block_is_wired : BlockIsWired
block_is_wired types i j w n t m ns env pl x r is done type_m type_n bound fresh =
    holder_is_wired types i j (OneNumber w) n t m ns env pl x r is done type_m type_n bound fresh

pub array_block_is_wired : ArrayBlockIsWired
array_block_is_wired types i j k w n t m ns env pl x r is done type_m type_n bound fresh =
    holder_is_wired types i j (ManyNumbers k w) n t m ns env pl x r is done type_m type_n bound fresh
