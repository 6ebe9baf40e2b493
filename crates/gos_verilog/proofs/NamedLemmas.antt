-- The names of the nets of ports with their roles, and what they leave open of the declarations.
use Rattle.std.proofs.Common.{◌≡◌, ℕ, suc, ◌+◌, ◌-◌, Bool, true, false, List, [], ◌∷◌, ◌++◌, length, map, refl, sym, ◌∙◌, ap, subst, arith, append_assoc, append-nil}
use Rattle.std.specs.List.{AllByRecursion, flat_map}
use Rattle.gos_types.specs.Types.{Type', Com, Exp, Var, Pair, Fun}
use Rattle.gos_types.specs.Widths.{IsWidth}
use Rattle.gos_netlist.specs.Events.{is_input, net_count}
use Rattle.gos_types.specs.Events.{Request}
use Rattle.gos_netlist.specs.Nets.{Side, Give, Take, NetPort}
use Rattle.gos_netlist.specs.Writable.{IsNumber, IsPortType, IsWritablePort}
use Rattle.gos_lex.specs.ItemTexts.{IsInRange}
use Rattle.gos_verilog.specs.declared.port_net.Role.{Role}
use Rattle.gos_verilog.specs.declared.port_net.Role.TheVariants.{Run, Done, Ask, Ans, AnsValue, Read, Write, WriteValue}
use Rattle.gos_verilog.specs.PortNets.{PortNet, suffix, direction, bits, roles, number_bits, net_in_role, nets_in_roles, nets_of_port, port_nets}
use Rattle.gos_verilog.specs.Lines.{port_declaration}
use Rattle.gos_verilog.specs.inner.Stages.{declared_net}
use Rattle.gos_verilog.specs.inner.Left.{is_first, least_of, most_of, IsDirection, IsDeclared, net_of, net_text, side_of_input, side_behind, last_behind, LeftNets, LeftCells, named_in_roles, named_nets, IsNamed, only_names}
use Rattle.gos_verilog.proofs.SuffixLemmas.{suffix_code}
use Rattle.gos_verilog.proofs.FoundLemmas.{declared_append}

-- a net that is declared
step : (before : List PortNet) (side : Side) (last : ℕ) (r : Role) (n : PortNet) (v : Bool × ℕ) (list : List (Role × List ℕ)) (lines y : List ℕ) → net_of n.name v ≡ declared_net n → IsDeclared r side last v
    → LeftNets (before ++ declared_net n ∷ []) (side_behind (is_first r) side v.0) (last_behind r last v.1) list (lines ++ y)
    → LeftNets before side last ((r, n.name) ∷ list) ((port_declaration n ++ lines) ++ y)
step before side last r n v list lines y same is left = (
  v,
  lines ++ y,
  is,
  subst (λ (m : PortNet). LeftNets (before ++ m ∷ []) (side_behind (is_first r) side v.0) (last_behind r last v.1) list (lines ++ y)) (sym same) left,
  append_assoc (port_declaration n) lines y ∙ ap (λ (m : PortNet). port_declaration m ++ (lines ++ y)) (sym same),
)

-- what follows the first net of a port
abbrev Follows : ℕ → ℕ → List Role → Type 0
Follows w last [] = Unit {0}
Follows w last (AnsValue ∷ rs) = Follows w (w - 1) rs
Follows w last (WriteValue ∷ rs) = (last + 1 ≡ w) × Follows w last rs
Follows w last (r ∷ rs) = (is_first r ≡ false) × Follows w last rs

abbrev After : List PortNet → Side → List (Role × List ℕ) → List ℕ → Type 0
After nets side more y = (l : ℕ) → LeftNets nets side l more y

behind : (before : List PortNet) (n : PortNet) (ns : List PortNet) (side : Side) (more : List (Role × List ℕ)) (y : List ℕ) → After (before ++ n ∷ ns) side more y → After ((before ++ n ∷ []) ++ ns) side more y
behind before n ns side more y left l = subst (λ (nets : List PortNet). LeftNets nets side l more y) (sym (append_assoc before (n ∷ []) ns)) (left l)

ended : (before : List PortNet) (side : Side) (last : ℕ) (more : List (Role × List ℕ)) (y : List ℕ) → After (before ++ []) side more y → LeftNets before side last more y
ended before side last more y left = subst (λ (nets : List PortNet). LeftNets nets side last more y) (append-nil before) (left last)

pulse : (n : PortNet) (v : Bool × ℕ) → v.0 ≡ n.input → v.1 + 1 ≡ n.width → net_of n.name v ≡ declared_net n
pulse n v input width = λ j. record { name = n.name; input = input j; width = width j; cell = 0 }

roles_left : (name : List ℕ) (side : Side) (w : ℕ) (cells : List ℕ) (rs : List Role) (before : List PortNet) (last : ℕ) (more : List (Role × List ℕ)) (y : List ℕ) → IsWidth w → Follows w last rs
    → After (before ++ map declared_net (nets_in_roles name side w cells rs)) side more y
    → LeftNets before side last (named_in_roles name cells rs ++ more) (flat_map port_declaration (nets_in_roles name side w cells rs) ++ y)
roles_left name side w [] rs before last more y wide follows left = ended before side last more y left
roles_left name side w (c ∷ cells) [] before last more y wide follows left = ended before side last more y left
roles_left name side w (c ∷ cells) (AnsValue ∷ rs) before last more y wide follows left =
    let n : PortNet = net_in_role name side w AnsValue c in
    let ns : List PortNet = nets_in_roles name side w cells rs in
    step before side last AnsValue n (n.input, w - 1) (named_in_roles name cells rs ++ more) (flat_map port_declaration ns) y (pulse n (n.input, w - 1) refl (omega (arith, wide.0))) (refl, (omega arith, omega (arith, wide.1)))
    (roles_left name side w cells rs (before ++ declared_net n ∷ []) (w - 1) more y wide follows (behind before (declared_net n) (map declared_net ns) side more y left))
roles_left name side w (c ∷ cells) (WriteValue ∷ rs) before last more y wide follows left =
    let n : PortNet = net_in_role name side w WriteValue c in
    let ns : List PortNet = nets_in_roles name side w cells rs in
    step before side last WriteValue n (n.input, last) (named_in_roles name cells rs ++ more) (flat_map port_declaration ns) y (pulse n (n.input, last) refl follows.0) (refl, (omega arith, omega arith))
    (roles_left name side w cells rs (before ++ declared_net n ∷ []) last more y wide follows.1 (behind before (declared_net n) (map declared_net ns) side more y left))
roles_left name side w (c ∷ cells) (Done ∷ rs) before last more y wide follows left =
    let n : PortNet = net_in_role name side w Done c in
    let ns : List PortNet = nets_in_roles name side w cells rs in
    step before side last Done n (n.input, 0) (named_in_roles name cells rs ++ more) (flat_map port_declaration ns) y (pulse n (n.input, 0) refl (omega arith)) (refl, (omega arith, omega arith))
    (roles_left name side w cells rs (before ++ declared_net n ∷ []) last more y wide follows.1 (behind before (declared_net n) (map declared_net ns) side more y left))
roles_left name side w (c ∷ cells) (Ans ∷ rs) before last more y wide follows left =
    let n : PortNet = net_in_role name side w Ans c in
    let ns : List PortNet = nets_in_roles name side w cells rs in
    step before side last Ans n (n.input, 0) (named_in_roles name cells rs ++ more) (flat_map port_declaration ns) y (pulse n (n.input, 0) refl (omega arith)) (refl, (omega arith, omega arith))
    (roles_left name side w cells rs (before ++ declared_net n ∷ []) last more y wide follows.1 (behind before (declared_net n) (map declared_net ns) side more y left))
roles_left name side w (c ∷ cells) (Write ∷ rs) before last more y wide follows left =
    let n : PortNet = net_in_role name side w Write c in
    let ns : List PortNet = nets_in_roles name side w cells rs in
    step before side last Write n (n.input, 0) (named_in_roles name cells rs ++ more) (flat_map port_declaration ns) y (pulse n (n.input, 0) refl (omega arith)) (refl, (omega arith, omega arith))
    (roles_left name side w cells rs (before ++ declared_net n ∷ []) last more y wide follows.1 (behind before (declared_net n) (map declared_net ns) side more y left))
roles_left name side w (c ∷ cells) (Run ∷ rs) before last more y wide follows left = absurd (cc follows.0)
roles_left name side w (c ∷ cells) (Ask ∷ rs) before last more y wide follows left = absurd (cc follows.0)
roles_left name side w (c ∷ cells) (Read ∷ rs) before last more y wide follows left = absurd (cc follows.0)

side_known : (side : Side) → side_of_input (is_input side Request) ≡ side
side_known Give = refl
side_known Take = refl

-- a port with a first net
first_left : (name : List ℕ) (side : Side) (w c : ℕ) (cells : List ℕ) (r : Role) (rs : List Role) (before : List PortNet) (other : Side) (last : ℕ) (more : List (Role × List ℕ)) (y : List ℕ)
    → is_first r ≡ true → direction r ≡ Request → bits w r ≡ 1 → IsInRange (least_of r last) (most_of r last) 0 → last_behind r last 0 ≡ last → IsWidth w → Follows w last rs
    → After (before ++ map declared_net (nets_in_roles name side w (c ∷ cells) (r ∷ rs))) side more y
    → LeftNets before other last (named_in_roles name (c ∷ cells) (r ∷ rs) ++ more) (flat_map port_declaration (nets_in_roles name side w (c ∷ cells) (r ∷ rs)) ++ y)
first_left name side w c cells r rs before other last more y first request one range kept wide follows left =
    let n : PortNet = net_in_role name side w r c in
    let ns : List PortNet = nets_in_roles name side w cells rs in
    let known : side_behind (is_first r) other n.input ≡ side = ap (λ (b : Bool). side_behind b other n.input) first ∙ (ap (λ d. side_of_input (is_input side d)) request ∙ side_known side) in
    let rest = roles_left name side w cells rs (before ++ declared_net n ∷ []) last more y wide follows (behind before (declared_net n) (map declared_net ns) side more y left) in
    step before other last r n (n.input, 0) (named_in_roles name cells rs ++ more) (flat_map port_declaration ns) y (pulse n (n.input, 0) refl (omega (arith, one)))
    (subst (λ (b : Bool). IsDirection b (is_input other (direction r)) n.input) (sym first) tt, range)
    (subst (λ (s : Side). LeftNets (before ++ declared_net n ∷ []) s (last_behind r last 0) (named_in_roles name cells rs ++ more) (flat_map port_declaration ns ++ y)) (sym known)
    (subst (λ (l : ℕ). LeftNets (before ++ declared_net n ∷ []) side l (named_in_roles name cells rs ++ more) (flat_map port_declaration ns ++ y)) (sym kept) rest))

port_left : (name : List ℕ) (side : Side) (t : Type') (cells : List ℕ) (before : List PortNet) (other : Side) (last : ℕ) (more : List (Role × List ℕ)) (y : List ℕ) → IsPortType t → length cells ≡ net_count t
    → After (before ++ map declared_net (nets_in_roles name side (number_bits t) cells (roles t))) side more y
    → LeftNets before other last (named_in_roles name cells (roles t) ++ more) (flat_map port_declaration (nets_in_roles name side (number_bits t) cells (roles t)) ++ y)
port_left name side Com [] before other last more y is many left = absurd (omega (arith, many))
port_left name side Com (c ∷ cells) before other last more y is many left =
    first_left name side 1 c cells Run (Done ∷ []) before other last more y refl refl refl (omega arith, omega arith) refl (omega arith, omega arith) (refl, tt) left
port_left name side (Exp w) [] before other last more y is many left = absurd (omega (arith, many))
port_left name side (Exp w) (c ∷ cells) before other last more y is many left =
    first_left name side w c cells Ask (Ans ∷ AnsValue ∷ []) before other last more y refl refl refl (omega arith, omega arith) refl is (refl, tt) left
port_left name side (Var w) [] before other last more y is many left = absurd (omega (arith, many))
port_left name side (Var w) (c ∷ cells) before other last more y is many left =
    first_left name side w c cells Read (Ans ∷ AnsValue ∷ Write ∷ WriteValue ∷ Done ∷ []) before other last more y refl refl refl (omega arith, omega arith) refl is
    (refl, (refl, (omega (arith, is.0), (refl, tt)))) left
port_left name side (Pair a b) cells before other last more y is many left = absurd is
port_left name side (Fun a b) cells before other last more y is many left = absurd is

lines_append : (ns ms : List PortNet) (y : List ℕ) → flat_map port_declaration (ns ++ ms) ++ y ≡ flat_map port_declaration ns ++ (flat_map port_declaration ms ++ y)
lines_append [] ms y = refl
lines_append (n ∷ ns) ms y =
    append_assoc (port_declaration n) (flat_map port_declaration (ns ++ ms)) y
    ∙ (ap (λ (rest : List ℕ). port_declaration n ++ rest) (lines_append ns ms y) ∙ sym (append_assoc (port_declaration n) (flat_map port_declaration ns) (flat_map port_declaration ms ++ y)))

pub nets_left : (ports : List NetPort) (before : List PortNet) (side : Side) (last : ℕ) (y : List ℕ) → AllByRecursion IsWritablePort ports → LeftCells (before ++ map declared_net (port_nets ports)) [] y
    → LeftNets before side last (named_nets ports) (flat_map port_declaration (port_nets ports) ++ y)
nets_left [] before side last y writable left = subst (λ (nets : List PortNet). LeftCells nets [] y) (append-nil before) left
nets_left (p ∷ ports) before side last y writable left =
    let ns : List PortNet = nets_of_port p in
    let all : (before ++ map declared_net ns) ++ map declared_net (port_nets ports) ≡ before ++ map declared_net (ns ++ port_nets ports) =
    append_assoc before (map declared_net ns) (map declared_net (port_nets ports)) ∙ ap (λ (nets : List PortNet). before ++ nets) (sym (declared_append ns (port_nets ports))) in
    subst (LeftNets before side last (named_nets (p ∷ ports))) (sym (lines_append ns (port_nets ports) y))
    (port_left p.name p.side p.ty p.nets before side last (named_nets ports) (flat_map port_declaration (port_nets ports) ++ y) writable.0.ty writable.0.many
    (λ l. nets_left ports (before ++ map declared_net ns) p.side l y writable.1 (subst (λ (nets : List PortNet). LeftCells nets [] y) (sym all) left)))

-- the names and roles by the roles alone
abbrev pub in_role : List ℕ → Role → Role × List ℕ
in_role name r = (r, name ++ suffix r)

abbrev zeros : List Role → List ℕ
zeros = map (λ (r : Role). 0)

pub by_roles : (name : List ℕ) (cells : List ℕ) (rs : List Role) → length cells ≡ length rs → named_in_roles name cells rs ≡ map (in_role name) rs
by_roles name [] [] many = refl
by_roles name [] (r ∷ rs) many = absurd (omega (arith, many))
by_roles name (c ∷ cells) [] many = absurd (omega (arith, many))
by_roles name (c ∷ cells) (r ∷ rs) many = ap (λ (rest : List (Role × List ℕ)). (r, name ++ suffix r) ∷ rest) (by_roles name cells rs (omega (arith, many)))

-- what was read of the nets of a port
record Got (name : List ℕ) (side : Side) (w : ℕ) (rs : List Role) (before : List PortNet) (more : List (Role × List ℕ)) (bytes : List ℕ) : Type 0 where
  last : ℕ
  rest : List ℕ
  left : LeftNets (before ++ map declared_net (nets_in_roles name side w (zeros rs) rs)) side last more rest
  is : bytes ≡ flat_map port_declaration (nets_in_roles name side w (zeros rs) rs) ++ rest

got_none : (name : List ℕ) (side : Side) (w last : ℕ) (before : List PortNet) (more : List (Role × List ℕ)) (bytes : List ℕ) → LeftNets before side last more bytes → Got name side w [] before more bytes
got_none name side w last before more bytes left =
    record { last = last; rest = bytes; left = subst (λ (nets : List PortNet). LeftNets nets side last more bytes) (sym (append-nil before)) left; is = refl }

got_more : (name : List ℕ) (side : Side) (w : ℕ) (r : Role) (rs : List Role) (before : List PortNet) (more : List (Role × List ℕ)) (bytes x : List ℕ) (v : Bool × ℕ) → v.0 ≡ is_input side (direction r) → v.1 + 1 ≡ bits w r
    → bytes ≡ net_text (name ++ suffix r) v ++ x → Got name side w rs (before ++ net_of (name ++ suffix r) v ∷ []) more x → Got name side w (r ∷ rs) before more bytes
got_more name side w r rs before more bytes x v input width is got =
    let m : PortNet = net_of (name ++ suffix r) v in
    let n : PortNet = net_in_role name side w r 0 in
    let ns : List PortNet = nets_in_roles name side w (zeros rs) rs in
    let same : m ≡ n = λ j. record { name = name ++ suffix r; input = input j; width = width j; cell = 0 } in
    let nets : (before ++ m ∷ []) ++ map declared_net ns ≡ before ++ n ∷ map declared_net ns =
    append_assoc before (m ∷ []) (map declared_net ns) ∙ ap (λ (k : PortNet). before ++ k ∷ map declared_net ns) same in
    record {
      last = got.last;
      rest = got.rest;
      left = subst (λ (list : List PortNet). LeftNets list side got.last more got.rest) nets got.left;
      is = is ∙ (ap (λ (k : PortNet). port_declaration k ++ x) same ∙ (ap (λ (b : List ℕ). port_declaration n ++ b) got.is ∙ sym (append_assoc (port_declaration n) (flat_map port_declaration ns) got.rest)));
    }

given : (input : Bool) → input ≡ is_input (side_of_input input) Request
given true = refl
given false = refl

record GotPort (name : List ℕ) (t : Type') (before : List PortNet) (more : List (Role × List ℕ)) (bytes : List ℕ) : Type 0 where
  side : Side
  ty : Type'
  kind : IsPortType ty
  same : roles ty ≡ roles t
  count : net_count ty ≡ length (zeros (roles ty))
  got : Got name side (number_bits ty) (roles ty) before more bytes

numbers : (rs : List Role) → AllByRecursion IsNumber (zeros rs)
numbers [] = tt
numbers (r ∷ rs) = (omega arith, numbers rs)

port_found : (name : List ℕ) (t : Type') (before : List PortNet) (other : Side) (last : ℕ) (more : List (Role × List ℕ)) (bytes : List ℕ) → IsPortType t
    → LeftNets before other last (map (in_role name) (roles t) ++ more) bytes → GotPort name t before more bytes
port_found name Com before other last more bytes is (v, x, d, (u, y, e, left, two), one) =
    let s : Side = side_of_input v.0 in
    record {
      side = s;
      ty = Com;
      kind = tt;
      same = refl;
      count = refl;
      got = got_more name s 1 Run (Done ∷ []) before more bytes x v (given v.0) (omega (arith, d.1.0, d.1.1)) one
          (got_more name s 1 Done [] (before ++ net_of (name ++ suffix Run) v ∷ []) more x y u e.0 (omega (arith, e.1.0, e.1.1)) two (got_none name s 1 last _ more y left));
    }
port_found name (Exp w') before other last more bytes is (v, x, d, (u, y, e, (t, z, f, left, three), two), one) =
    let s : Side = side_of_input v.0 in
    let w : ℕ = t.1 + 1 in
    record {
      side = s;
      ty = Exp w;
      kind = (omega arith, omega (arith, f.1.1));
      same = refl;
      count = refl;
      got = got_more name s w Ask (Ans ∷ AnsValue ∷ []) before more bytes x v (given v.0) (omega (arith, d.1.0, d.1.1)) one
          (got_more name s w Ans (AnsValue ∷ []) (before ++ net_of (name ++ suffix Ask) v ∷ []) more x y u e.0 (omega (arith, e.1.0, e.1.1)) two
          (got_more name s w AnsValue [] _ more y z t f.0 refl three (got_none name s w t.1 _ more z left)));
    }
port_found name (Var w') before other last more bytes is (v, x, d, (u, y, e, (t, z, f, (a, xa, da, (b, xb, db, (c, xc, dc, left, six), five), four), three), two), one) =
    let s : Side = side_of_input v.0 in
    let w : ℕ = t.1 + 1 in
    record {
      side = s;
      ty = Var w;
      kind = (omega arith, omega (arith, f.1.1));
      same = refl;
      count = refl;
      got = got_more name s w Read (Ans ∷ AnsValue ∷ Write ∷ WriteValue ∷ Done ∷ []) before more bytes x v (given v.0) (omega (arith, d.1.0, d.1.1)) one
          (got_more name s w Ans (AnsValue ∷ Write ∷ WriteValue ∷ Done ∷ []) _ more x y u e.0 (omega (arith, e.1.0, e.1.1)) two
          (got_more name s w AnsValue (Write ∷ WriteValue ∷ Done ∷ []) _ more y z t f.0 refl three
          (got_more name s w Write (WriteValue ∷ Done ∷ []) _ more z xa a da.0 (omega (arith, da.1.0, da.1.1)) four
          (got_more name s w WriteValue (Done ∷ []) _ more xa xb b db.0 (omega (arith, db.1.0, db.1.1)) five
          (got_more name s w Done [] _ more xb xc c dc.0 (omega (arith, dc.1.0, dc.1.1)) six (got_none name s w t.1 _ more xc left))))));
    }
port_found name (Pair a b) before other last more bytes is left = absurd is
port_found name (Fun a b) before other last more bytes is left = absurd is

abbrev names : List NetPort → List (List ℕ)
names = map (λ (p : NetPort). p.name)

pub record FoundFaces (ports : List NetPort) (before : List PortNet) (bytes : List ℕ) : Type 0 where
  pub found : List NetPort
  pub rest : List ℕ
  pub writable : AllByRecursion IsWritablePort found
  pub many : length found ≡ length ports
  pub named : map (λ (p : NetPort). p.name) found ≡ map (λ (p : NetPort). p.name) ports
  pub same : named_nets found ≡ named_nets ports
  pub left : LeftCells (before ++ map declared_net (port_nets found)) [] rest
  pub is : bytes ≡ flat_map port_declaration (port_nets found) ++ rest

pub role_count : (t : Type') → IsPortType t → net_count t ≡ length (roles t)
role_count Com is = refl
role_count (Exp w) is = refl
role_count (Var w) is = refl
role_count (Pair a b) is = absurd is
role_count (Fun a b) is = absurd is

pub nets_found : (ports : List NetPort) (before : List PortNet) (side : Side) (last : ℕ) (bytes : List ℕ) → AllByRecursion IsWritablePort ports → LeftNets before side last (named_nets ports) bytes → FoundFaces ports before bytes
nets_found [] before side last bytes writable left =
    record { found = []; rest = bytes; writable = tt; many = refl; named = refl; same = refl; left = subst (λ (nets : List PortNet). LeftCells nets [] bytes) (sym (append-nil before)) left; is = refl }
nets_found (p ∷ ports) before side last bytes writable left =
    let roles_are = by_roles p.name p.nets (roles p.ty) (writable.0.many ∙ role_count p.ty writable.0.ty) in
    let one = port_found p.name p.ty before side last (named_nets ports) bytes writable.0.ty (subst (λ (list : List (Role × List ℕ)). LeftNets before side last (list ++ named_nets ports) bytes) roles_are left) in
    let got = one.got in
    let rs : List Role = roles one.ty in
    let q : NetPort = record { name = p.name; side = one.side; ty = one.ty; nets = zeros rs } in
    let ns : List PortNet = nets_of_port q in
    let rest = nets_found ports (before ++ map declared_net ns) one.side got.last got.rest writable.1 got.left in
    let all : (before ++ map declared_net ns) ++ map declared_net (port_nets rest.found) ≡ before ++ map declared_net (ns ++ port_nets rest.found) =
    append_assoc before (map declared_net ns) (map declared_net (port_nets rest.found)) ∙ ap (λ (nets : List PortNet). before ++ nets) (sym (declared_append ns (port_nets rest.found))) in
    let zero_roles = by_roles p.name (zeros rs) rs (sym one.count ∙ role_count one.ty one.kind) in
    let head : named_in_roles p.name (zeros rs) rs ≡ named_in_roles p.name p.nets (roles p.ty) = zero_roles ∙ (ap (map (in_role p.name)) one.same ∙ sym roles_are) in
    record {
      found = q ∷ rest.found;
      rest = rest.rest;
      writable = (record { name = writable.0.name; ty = one.kind; many = sym one.count; nets = numbers rs }, rest.writable);
      many = ap suc rest.many;
      named = ap (λ (list : List (List ℕ)). p.name ∷ list) rest.named;
      same = λ j. head j ++ rest.same j;
      left = subst (λ (nets : List PortNet). LeftCells nets [] rest.rest) all rest.left;
      is = got.is ∙ (ap (λ (b : List ℕ). flat_map port_declaration ns ++ b) rest.is ∙ sym (lines_append ns (port_nets rest.found) rest.rest));
    }

-- roles are known by names
pub same_named : (xs ys : List (Role × List ℕ)) → AllByRecursion IsNamed xs → AllByRecursion IsNamed ys → only_names xs ≡ only_names ys → xs ≡ ys
same_named [] [] is_a is_b same = refl
same_named [] (b ∷ ys) is_a is_b same = absurd (cc same)
same_named (a ∷ xs) [] is_a is_b same = absurd (cc same)
same_named (a ∷ xs) (b ∷ ys) is_a is_b same =
    let first : a.1 ≡ b.1 = cc same in
    let known = suffix_code is_a.0.0 is_b.0.0 a.0 b.0 (sym is_a.0.1 ∙ (first ∙ is_b.0.1)) in
    let rest = same_named xs ys is_a.1 is_b.1 (cc same) in
    (λ j. (known.1 j, first j) ∷ rest j)

all_join : (xs ys : List (Role × List ℕ)) → AllByRecursion IsNamed xs → AllByRecursion IsNamed ys → AllByRecursion IsNamed (xs ++ ys)
all_join [] ys is_a is_b = is_b
all_join (a ∷ xs) ys is_a is_b = (is_a.0, all_join xs ys is_a.1 is_b)

roles_named : (name cells : List ℕ) (rs : List Role) → AllByRecursion IsNamed (named_in_roles name cells rs)
roles_named name [] rs = tt
roles_named name (c ∷ cells) [] = tt
roles_named name (c ∷ cells) (r ∷ rs) = ((name, refl), roles_named name cells rs)

pub all_named : (ports : List NetPort) → AllByRecursion IsNamed (named_nets ports)
all_named [] = tt
all_named (p ∷ ports) = all_join (named_in_roles p.name p.nets (roles p.ty)) (named_nets ports) (roles_named p.name p.nets (roles p.ty)) (all_named ports)

abbrev net_names : List PortNet → List (List ℕ)
net_names = map (λ (n : PortNet). n.name)

join_names : (name : List ℕ) (side : Side) (w : ℕ) (cells : List ℕ) (rs : List Role) (list : List (Role × List ℕ)) (nets : List PortNet) → only_names list ≡ net_names nets
    → only_names (named_in_roles name cells rs ++ list) ≡ net_names (nets_in_roles name side w cells rs ++ nets)
join_names name side w [] rs list nets same = same
join_names name side w (c ∷ cells) [] list nets same = same
join_names name side w (c ∷ cells) (r ∷ rs) list nets same = ap (λ (rest : List (List ℕ)). (name ++ suffix r) ∷ rest) (join_names name side w cells rs list nets same)

pub names_are : (ports : List NetPort) → only_names (named_nets ports) ≡ map (λ (n : PortNet). n.name) (port_nets ports)
names_are [] = refl
names_are (p ∷ ports) = join_names p.name p.side (number_bits p.ty) p.nets (roles p.ty) (named_nets ports) (port_nets ports) (names_are ports)
