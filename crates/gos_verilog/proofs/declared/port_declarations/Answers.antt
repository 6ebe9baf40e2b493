use Rattle.std.proofs.Common.{◌≡◌, ◌+◌, ◌-◌, ◌++◌, ◌∷◌, ◌<◌, ◌≤◌, [], ℕ, List, Bool, Bor, length, take, drop, map, get_or, sym, ◌∙◌, ap, subst, arith, drop-cons, add-one, length-drop}
use Rattle.std.proofs.Math.ListN.{drop_of_length-le}
use Rattle.std.proofs.lemmas.List.{length-map}
use Rattle.gos_lex.specs.Items.{TextAt, Misses}
use Rattle.gos_lex.proofs.PlaceLemmas.{rest_whole}
use Rattle.gos_netlist.specs.Nets.{Side, Give}
use Rattle.gos_netlist.specs.Seen.{side_of}
use Rattle.gos_verilog.specs.declared.slots.TheConstants.{LAST_BIT}
use Rattle.gos_verilog.specs.declared.fault.VFault.{VFault}
use Rattle.gos_verilog.specs.declared.port_net.Role.{Role}
use Rattle.gos_verilog.specs.PortNets.{PortNet}
use Rattle.gos_verilog.specs.inner.Stages.{BreaksAt}
use Rattle.gos_verilog.specs.inner.Breaks.{BreaksFrom, LeadsOn, PassedIn}
use Rattle.gos_verilog.specs.inner.Left.{is_first, side_behind, last_behind, IsDeclared, IsDeclaration, LeftNets, net_of, net_text}
use Rattle.gos_verilog.proofs.WordLemmas.{shift_passed}
use Rattle.gos_verilog.proofs.LeftNetLemmas.{named_at, net_read, most_few, behind_few, nets_on, nets_break}
use Rattle.gos_verilog.proofs.declared.port_declarations.Goals as goal

-- the name at a place, and those behind it
cut : (names : List (Bor (List ℕ))) (k : ℕ) → k < length names → drop k names ≡ get_or names k (record { ref_ptr = (0, 0); now = [] }) ∷ drop (k + 1) names
cut names k inside = drop-cons names k (record { ref_ptr = (0, 0); now = [] }) inside ∙ ap (λ (n : ℕ). get_or names k (record { ref_ptr = (0, 0); now = [] }) ∷ drop n names) (sym (add-one k))

pub loop-name-preserved : goal.loop-name-preserved
loop-name-preserved c =
    let text = c.args.text.now in
    let names = c.args.names.now in
    let at = c.loop-name.at in
    let k = c.loop-name.name-index in
    let name : Bor (List ℕ) = get_or names k (record { ref_ptr = (0, 0); now = [] }) in
    let names_cut = cut names k c.loop-name-test.true in
    let role = c.in-Some.role in
    let side = side_of c.loop-name.side in
    let last = c.loop-name.last in
    let nets = c.loop-name.nets.items in
    let len = c.in-Ok.len in
    let declared = c.in-Ok.ensures.declared in
    let v : Bool × ℕ = declared.0 in
    let net : PortNet = net_of name.now v in
    let net_is : c.in-Ok.net ≡ net = declared.2 in
    let rest : List ℕ = take (length text - at) (drop at text) in
    let size : length rest ≡ length text - at = ap length (rest_whole text at) ∙ length-drop at text in
    let passed = shift_passed text rest at len (net_text name.now v) (rest_whole text at) (omega (arith, size, c.loop-name.invariant.within)) declared.3 in
    let longer : c.push.new.self.items ≡ nets ++ net ∷ [] = c.in_ok-push-in-Ok.ensures.items ∙ ap (λ (n : PortNet). nets ++ n ∷ []) net_is in
    let e : v.1 + 1 - 1 ≡ v.1 = omega arith in
    let last_is : c.last_behind-last.result ≡ last_behind role last v.1 = c.last_behind-last.ensures ∙ (ap (λ (n : PortNet). last_behind role last (n.width - 1)) (c.net.view_is ∙ net_is) ∙ ap (last_behind role last) e) in
    let side_is : side_of c.side_behind-side.result ≡ side_behind (is_first role) side v.0 = c.side_behind-side.ensures ∙ ap (λ (n : PortNet). side_behind (is_first role) side n.input) (c.net.view_is ∙ net_is) in
    let few : v.1 ≤ LAST_BIT = omega (arith, declared.1.1.1, most_few role last c.loop-name.invariant.few) in
    record {
      within = omega (arith, size, c.in-Ok.ensures.within, c.loop-name.invariant.within);
      few = omega (arith, last_is, behind_few role last v.1 c.loop-name.invariant.few declared.1.1);
      read = net_read names k name nets c.push.new.self.items text c.args.at at (at + len) v names_cut longer few c.loop-name.invariant.read passed;
      left = λ named are.
          let here = named_at names named k name are names_cut in
          let found : role ≡ here.net.0 = rw c.in-Some.is at (c.role_of.ensures here.net.0 here.front here.role) in
          let n_name : here.net.1 ≡ name.now = here.is in
          let start : TextAt = record { text = text; at = c.args.at } in
          let now : TextAt = record { text = text; at = at } in
          let new : TextAt = record { text = text; at = at + len } in
          let Goal : Role → List ℕ → Type 0 = λ r b.
          LeadsOn (LeftNets [] Give 0 named) (LeftNets (nets ++ net_of b v ∷ []) (side_behind (is_first r) side v.0) (last_behind r last v.1) (drop (k + 1) named)) start new in
          let far = nets_on named k here.net nets side last start now new v c.loop-name.invariant.few here.cut
          (subst (λ (r : Role). IsDeclared r side last v) found declared.1) (c.loop-name.invariant.left named are)
          (subst (λ (b : List ℕ). PassedIn text at (at + len) (net_text b v)) (sym n_name) passed) in
          let known : Goal role name.now = subst (λ (b : List ℕ). Goal role b) n_name (subst (λ (r : Role). Goal r here.net.1) (sym found) far) in
          subst (λ (list : List PortNet). LeadsOn (LeftNets [] Give 0 named) (LeftNets list (side_of c.side_behind-side.result) c.last_behind-last.result (drop (k + 1) named)) start new) (sym longer)
          (subst (λ (s : Side). LeadsOn (LeftNets [] Give 0 named) (LeftNets (nets ++ net ∷ []) s c.last_behind-last.result (drop (k + 1) named)) start new) (sym side_is)
          (subst (λ (l : ℕ). LeadsOn (LeftNets [] Give 0 named) (LeftNets (nets ++ net ∷ []) (side_behind (is_first role) side v.0) l (drop (k + 1) named)) start new) (sym last_is) known));
    }

pub returns-in-Err-Form-clause-wrong : goal.returns-in-Err-Form-clause-wrong
returns-in-Err-Form-clause-wrong c named are =
    let text = c.args.text.now in
    let names = c.args.names.now in
    let at = c.loop-name.at in
    let k = c.loop-name.name-index in
    let name : Bor (List ℕ) = get_or names k (record { ref_ptr = (0, 0); now = [] }) in
    let side = side_of c.loop-name.side in
    let last = c.loop-name.last in
    let rest : List ℕ = take (length text - at) (drop at text) in
    let place = c.in-Err-Form.place in
    let here = named_at names named k name are (cut names k c.loop-name-test.true) in
    let found : c.in-Some.role ≡ here.net.0 = rw c.in-Some.is at (c.role_of.ensures here.net.0 here.front here.role) in
    let wrong = subst (λ (f : VFault). BreaksAt (IsDeclaration c.in-Some.role side last name.now) (record { text = rest; at = 0 }) f) c.in-Err-Form.field-0-is c.in-Err-Form.ensures.wrong in
    let misses : Misses (IsDeclaration here.net.0 side last here.net.1) rest 0 place =
    subst (λ (b : List ℕ). Misses (IsDeclaration here.net.0 side last b) rest 0 place) (sym here.is) (subst (λ (r : Role). Misses (IsDeclaration r side last name.now) rest 0 place) found wrong) in
    subst (λ (n : ℕ). BreaksFrom (LeftNets [] Give 0 named) (record { text = text; at = c.args.at }) (at + n)) (sym c.in-Err-Form.place-is)
    (nets_break named k here.net c.loop-name.nets.items side last text rest c.args.at at place here.cut (c.loop-name.invariant.left named are) (rest_whole text at) misses)

pub returns-in-None-clause-wrong : goal.returns-in-None-clause-wrong
returns-in-None-clause-wrong c named are =
    let names = c.args.names.now in
    let k = c.loop-name.name-index in
    let name : Bor (List ℕ) = get_or names k (record { ref_ptr = (0, 0); now = [] }) in
    let here = named_at names named k name are (cut names k c.loop-name-test.true) in
    absurd (rw c.in-None.is at (c.role_of.ensures here.net.0 here.front here.role))

none_left : (names : List (Bor (List ℕ))) (named : List (Role × List ℕ)) (k : ℕ) → map (λ (b : Bor (List ℕ)). b.now) names ≡ map (λ (n : Role × List ℕ). n.1) named → length names ≤ k → drop k named ≡ []
none_left names named k same all = drop_of_length-le named (omega (arith, all, ap length same, length-map names (λ (b : Bor (List ℕ)). b.now), length-map named (λ (n : Role × List ℕ). n.1)))

pub returns-clause-left : goal.returns-clause-left
returns-clause-left c named are =
    let text = c.args.text.now in
    let nets = c.loop-name.nets.items in
    let k = c.loop-name.name-index in
    let end = none_left c.args.names.now named k are.0 c.loop-name-test.false in
    subst (λ (left : List (Role × List ℕ)). LeadsOn (LeftNets [] Give 0 named) (LeftNets nets (side_of c.loop-name.side) c.loop-name.last left) (record { text = text; at = c.args.at }) (record { text = text; at = c.loop-name.at })) end
    (c.loop-name.invariant.left named are)
