-- The ports whose nets these are, found from the front.
use Rattle.std.proofs.Common.{◌≡◌, ℕ, zero, suc, ◌+◌, ◌-◌, ◌<◌, ◌≤◌, Bool, true, false, List, [], ◌∷◌, ◌++◌, length, map, take, drop, Some, refl, sym, ◌∙◌, ap, subst, arith, slice_get, append_assoc, append-nil, length-append}
use Rattle.std.specs.List.{AllByRecursion}
use Rattle.std.proofs.Math.Seq.{take-append_seam, drop-append_seam}
use Rattle.std.proofs.lemmas.List.{drop-drop}
use Rattle.gos_types.specs.Types.{Type', Com, Exp, Var, Pair, Fun}
use Rattle.gos_types.specs.Widths.{IsWidth}
use Rattle.gos_netlist.specs.Nets.{Side, Give, Take, NetPort}
use Rattle.gos_netlist.specs.Events.{is_input, net_count}
use Rattle.gos_types.specs.Events.{Request}
use Rattle.gos_netlist.specs.Writable.{IsNumber, IsPortType, IsWritablePort}
use Rattle.gos_verilog.specs.declared.port_net.Role.{Role}
use Rattle.gos_verilog.specs.declared.port_net.Role.TheVariants.{Run, Ask, AnsValue, Read, WriteValue}
use Rattle.gos_verilog.specs.PortNets.{PortNet, suffix, direction, bits, roles, number_bits, nets_in_roles, nets_of_port, port_nets}
use Rattle.gos_verilog.specs.inner.Stages.{HaveWidths, declared_net, suffix_length}
use Rattle.gos_verilog.proofs.SuffixLemmas.{suffix_code}
use Rattle.gos_verilog.proofs.PortLemmas.{some_net}

-- how many nets, and which cells, a port has
count_roles : (t : Type') → IsPortType t → net_count t ≡ length (roles t)
count_roles Com is = refl
count_roles (Exp w) is = refl
count_roles (Var w) is = refl
count_roles (Pair a b) is = absurd is
count_roles (Fun a b) is = absurd is

length_in_roles : (name : List ℕ) (side : Side) (w : ℕ) (ns : List ℕ) (rs : List Role) → length ns ≡ length rs → length (nets_in_roles name side w ns rs) ≡ length ns
length_in_roles name side w [] rs same = refl
length_in_roles name side w (n ∷ ns) [] same = absurd (omega (arith, same))
length_in_roles name side w (n ∷ ns) (r ∷ rs) same = ap suc (length_in_roles name side w ns rs (omega (arith, same)))

cells_in_roles : (name : List ℕ) (side : Side) (w : ℕ) (ns : List ℕ) (rs : List Role) → length ns ≡ length rs → map (λ (n : PortNet). n.cell) (nets_in_roles name side w ns rs) ≡ ns
cells_in_roles name side w [] rs same = refl
cells_in_roles name side w (n ∷ ns) [] same = absurd (omega (arith, same))
cells_in_roles name side w (n ∷ ns) (r ∷ rs) same = ap (λ more. n ∷ more) (cells_in_roles name side w ns rs (omega (arith, same)))

pub port_length : (p : NetPort) → IsWritablePort p → length (nets_of_port p) ≡ net_count p.ty
port_length p is = length_in_roles p.name p.side (number_bits p.ty) p.nets (roles p.ty) (is.many ∙ count_roles p.ty is.ty) ∙ is.many

pub port_cells : (p : NetPort) → IsWritablePort p → map (λ (n : PortNet). n.cell) (nets_of_port p) ≡ p.nets
port_cells p is = cells_in_roles p.name p.side (number_bits p.ty) p.nets (roles p.ty) (is.many ∙ count_roles p.ty is.ty)

-- what is seen of a port at its first nets
pub data View (p : NetPort) (nets : List PortNet) : Type 0 where
  AtCom : (first : PortNet) (ty : p.ty ≡ Com) (at : slice_get nets 0 ≡ Some first) (name : first.name ≡ p.name ++ suffix Run) (input : first.input ≡ is_input p.side Request) (long : 2 ≤ length nets) → View p nets
  AtExp : (first value : PortNet) (w : ℕ) (ty : p.ty ≡ Exp w) (at : slice_get nets 0 ≡ Some first) (name : first.name ≡ p.name ++ suffix Ask) (input : first.input ≡ is_input p.side Request)
      (value_at : slice_get nets 2 ≡ Some value) (width : value.width ≡ w) (long : 3 ≤ length nets) → View p nets
  AtVar : (first value : PortNet) (w : ℕ) (ty : p.ty ≡ Var w) (at : slice_get nets 0 ≡ Some first) (name : first.name ≡ p.name ++ suffix Read) (input : first.input ≡ is_input p.side Request)
      (value_at : slice_get nets 2 ≡ Some value) (width : value.width ≡ w) (long : 6 ≤ length nets) → View p nets

view_of : (p : NetPort) (t : Type') (ns : List ℕ) (nets behind : List PortNet) → p.ty ≡ t → IsPortType t → length ns ≡ net_count t
    → nets ≡ nets_in_roles p.name p.side (number_bits t) ns (roles t) ++ behind → View p nets
view_of p Com (a ∷ b ∷ []) nets behind ty is many same =
    subst (View p) (sym same) (AtCom (record { name = p.name ++ suffix Run; input = is_input p.side Request; width = 1; cell = a }) ty refl refl refl (omega arith))
view_of p (Exp w) (a ∷ b ∷ c ∷ []) nets behind ty is many same =
    subst (View p) (sym same)
    (AtExp (record { name = p.name ++ suffix Ask; input = is_input p.side Request; width = 1; cell = a })
    (record { name = p.name ++ suffix AnsValue; input = is_input p.side (direction AnsValue); width = w; cell = c }) w ty refl refl refl refl refl (omega arith))
view_of p (Var w) (a ∷ b ∷ c ∷ d ∷ e ∷ f ∷ []) nets behind ty is many same =
    subst (View p) (sym same)
    (AtVar (record { name = p.name ++ suffix Read; input = is_input p.side Request; width = 1; cell = a })
    (record { name = p.name ++ suffix AnsValue; input = is_input p.side (direction AnsValue); width = w; cell = c }) w ty refl refl refl refl refl (omega arith))
view_of p (Pair s t) ns nets behind ty is many same = absurd is
view_of p (Fun s t) ns nets behind ty is many same = absurd is
view_of p t ns nets behind ty is many same = absurd (omega (arith, many))

pub view : (p : NetPort) (nets behind : List PortNet) → IsWritablePort p → nets ≡ nets_of_port p ++ behind → View p nets
view p nets behind is same = view_of p p.ty p.nets nets behind refl is.ty is.many same

one_first : (nets : List PortNet) (a b : PortNet) (k : ℕ) → slice_get nets k ≡ Some a → slice_get nets k ≡ Some b → a ≡ b
one_first nets a b k is_a is_b = let both : Some a ≡ Some b = sym is_a ∙ is_b in cc both

-- the name of the first net ends with the suffix of its role, and with no other one
other_role : (p : NetPort) (nets : List PortNet) (mine seen : PortNet) (front : List ℕ) (r q : Role) → slice_get nets 0 ≡ Some mine → slice_get nets 0 ≡ Some seen → mine.name ≡ p.name ++ suffix r
    → seen.name ≡ front ++ suffix q → r ≡ q
other_role p nets mine seen front r q is_mine is_seen name ends =
    (suffix_code p.name front r q (sym name ∙ (ap (λ (n : PortNet). n.name) (one_first nets mine seen 0 is_mine is_seen) ∙ ends))).1

pub not_short : (p : NetPort) (nets : List PortNet) → View p nets → length nets < 2 → ⊥
not_short p nets (AtCom first ty at name input long) short = omega (arith, long, short)
not_short p nets (AtExp first value w ty at name input value_at width long) short = omega (arith, long, short)
not_short p nets (AtVar first value w ty at name input value_at width long) short = omega (arith, long, short)

pub is_com : (p : NetPort) (nets : List PortNet) (seen : PortNet) (front : List ℕ) → View p nets → slice_get nets 0 ≡ Some seen → seen.name ≡ front ++ suffix Run → Com ≡ p.ty
is_com p nets seen front (AtCom first ty at name input long) is ends = sym ty
is_com p nets seen front (AtExp first value w ty at name input value_at width long) is ends = absurd (let role = other_role p nets first seen front Ask Run at is name ends in cc role)
is_com p nets seen front (AtVar first value w ty at name input value_at width long) is ends = absurd (let role = other_role p nets first seen front Read Run at is name ends in cc role)

pub is_exp : (p : NetPort) (nets : List PortNet) (seen seen_value : PortNet) (front : List ℕ) → View p nets → slice_get nets 0 ≡ Some seen → slice_get nets 2 ≡ Some seen_value → seen.name ≡ front ++ suffix Ask
    → Exp seen_value.width ≡ p.ty
is_exp p nets seen seen_value front (AtCom first ty at name input long) is is_value ends = absurd (let role = other_role p nets first seen front Run Ask at is name ends in cc role)
is_exp p nets seen seen_value front (AtExp first value w ty at name input value_at width long) is is_value ends =
    ap Exp (ap (λ (n : PortNet). n.width) (one_first nets seen_value value 2 is_value value_at) ∙ width) ∙ sym ty
is_exp p nets seen seen_value front (AtVar first value w ty at name input value_at width long) is is_value ends = absurd (let role = other_role p nets first seen front Read Ask at is name ends in cc role)

pub is_var : (p : NetPort) (nets : List PortNet) (seen seen_value : PortNet) (front : List ℕ) → View p nets → slice_get nets 0 ≡ Some seen → slice_get nets 2 ≡ Some seen_value → seen.name ≡ front ++ suffix Read
    → Var seen_value.width ≡ p.ty
is_var p nets seen seen_value front (AtCom first ty at name input long) is is_value ends = absurd (let role = other_role p nets first seen front Run Read at is name ends in cc role)
is_var p nets seen seen_value front (AtExp first value w ty at name input value_at width long) is is_value ends = absurd (let role = other_role p nets first seen front Ask Read at is name ends in cc role)
is_var p nets seen seen_value front (AtVar first value w ty at name input value_at width long) is is_value ends =
    ap Var (ap (λ (n : PortNet). n.width) (one_first nets seen_value value 2 is_value value_at) ∙ width) ∙ sym ty

-- a port of two nets has the first suffix
pub not_two : (p : NetPort) (nets : List PortNet) (seen : PortNet) → View p nets → slice_get nets 0 ≡ Some seen → ((front : List ℕ) → seen.name ≡ front ++ suffix Run → ⊥) → length nets < 3 → ⊥
not_two p nets seen (AtCom first ty at name input long) is none short = none p.name (ap (λ (n : PortNet). n.name) (one_first nets seen first 0 is at) ∙ name)
not_two p nets seen (AtExp first value w ty at name input value_at width long) is none short = omega (arith, long, short)
not_two p nets seen (AtVar first value w ty at name input value_at width long) is none short = omega (arith, long, short)

-- a port has one of the three suffixes
pub not_none : (p : NetPort) (nets : List PortNet) (seen : PortNet) → View p nets → slice_get nets 0 ≡ Some seen → ((front : List ℕ) → seen.name ≡ front ++ suffix Run → ⊥)
    → ((front : List ℕ) → seen.name ≡ front ++ suffix Ask → ⊥) → (6 ≤ length nets → (front : List ℕ) → seen.name ≡ front ++ suffix Read → ⊥) → ⊥
not_none p nets seen (AtCom first ty at name input long) is run ask read = run p.name (ap (λ (n : PortNet). n.name) (one_first nets seen first 0 is at) ∙ name)
not_none p nets seen (AtExp first value w ty at name input value_at width long) is run ask read = ask p.name (ap (λ (n : PortNet). n.name) (one_first nets seen first 0 is at) ∙ name)
not_none p nets seen (AtVar first value w ty at name input value_at width long) is run ask read =
    read long p.name (ap (λ (n : PortNet). n.name) (one_first nets seen first 0 is at) ∙ name)

pub some_first : (p : NetPort) (nets : List PortNet) → View p nets → 0 < length nets
some_first p nets (AtCom first ty at name input long) = omega (arith, long)
some_first p nets (AtExp first value w ty at name input value_at width long) = omega (arith, long)
some_first p nets (AtVar first value w ty at name input value_at width long) = omega (arith, long)

-- the name and the side of a port, as its first net tells them
pub record Told (p : NetPort) (seen : PortNet) : Type 0 where
  pub name : take (length seen.name - suffix_length p.ty) seen.name ≡ p.name
  pub side : seen.input ≡ is_input p.side Request

cut_suffix : (name end whole : List ℕ) (n : ℕ) → whole ≡ name ++ end → length end ≡ n → take (length whole - n) whole ≡ name
cut_suffix name end whole n is long =
    let size : length whole - n ≡ length name = omega (arith, ap length is, length-append name end, long) in
    (λ i. take (size i) (is i)) ∙ take-append_seam name end

pub told : (p : NetPort) (nets : List PortNet) (seen : PortNet) → View p nets → slice_get nets 0 ≡ Some seen → Told p seen
told p nets seen (AtCom first ty at name input long) is =
    let same = one_first nets seen first 0 is at in
    record {
      name = cut_suffix p.name (suffix Run) seen.name (suffix_length p.ty) (ap (λ (n : PortNet). n.name) same ∙ name) (sym (ap suffix_length ty));
      side = ap (λ (n : PortNet). n.input) same ∙ input;
    }
told p nets seen (AtExp first value w ty at name input value_at width long) is =
    let same = one_first nets seen first 0 is at in
    record {
      name = cut_suffix p.name (suffix Ask) seen.name (suffix_length p.ty) (ap (λ (n : PortNet). n.name) same ∙ name) (sym (ap suffix_length ty));
      side = ap (λ (n : PortNet). n.input) same ∙ input;
    }
told p nets seen (AtVar first value w ty at name input value_at width long) is =
    let same = one_first nets seen first 0 is at in
    record {
      name = cut_suffix p.name (suffix Read) seen.name (suffix_length p.ty) (ap (λ (n : PortNet). n.name) same ∙ name) (sym (ap suffix_length ty));
      side = ap (λ (n : PortNet). n.input) same ∙ input;
    }

-- the side that a direction of requests tells
pub side_is : (side : Side) (input : Bool) → input ≡ is_input side Request → (input ≡ true → Give ≡ side) × (input ≡ false → Take ≡ side)
side_is Give input is = ((λ _. refl), (λ no. absurd (let both : true ≡ false = sym is ∙ no in cc both)))
side_is Take input is = ((λ yes. absurd (let both : false ≡ true = sym is ∙ yes in cc both)), (λ _. refl))

-- ports are found so far
abbrev pub PortsSoFar : List PortNet → ℕ → List NetPort → Type 0
PortsSoFar nets at found = (ps : List NetPort) → AllByRecursion IsWritablePort ps → nets ≡ port_nets ps
    → (left : List NetPort) × AllByRecursion IsWritablePort left × (drop at nets ≡ port_nets left) × (found ++ left ≡ ps)

-- the next port
pub record NextPort (nets : List PortNet) (at : ℕ) (found ps : List NetPort) : Type 0 where
  pub port : NetPort
  pub left : List NetPort
  pub writable : IsWritablePort port
  pub all : AllByRecursion IsWritablePort left
  pub stands : drop at nets ≡ nets_of_port port ++ port_nets left
  pub whole : found ++ port ∷ left ≡ ps

some_left : (nets : List PortNet) (at : ℕ) → at < length nets → drop at nets ≡ [] → ⊥
some_left [] at inside none = omega (arith, inside)
some_left (n ∷ nets) zero inside none = cc none
some_left (n ∷ nets) (suc at) inside none = some_left nets at (omega (arith, inside)) none

pub next_port : (nets : List PortNet) (at : ℕ) (found ps : List NetPort) → at < length nets → PortsSoFar nets at found → AllByRecursion IsWritablePort ps → nets ≡ port_nets ps → NextPort nets at found ps
next_port nets at found ps inside far all same = let known = far ps all same in by known.0 known.1 known.2 known.3
  where
    by : (left : List NetPort) → AllByRecursion IsWritablePort left → drop at nets ≡ port_nets left → found ++ left ≡ ps → NextPort nets at found ps
    by [] are stands whole = absurd (some_left nets at inside stands)
    by (p ∷ left) are stands whole = record { port = p; left = left; writable = are.0; all = are.1; stands = stands; whole = whole }

pub ports_more : (nets : List PortNet) (at count : ℕ) (found ps : List NetPort) (p : NetPort) (next : NextPort nets at found ps) → p ≡ next.port → count ≡ net_count next.port.ty
    → (left : List NetPort) × AllByRecursion IsWritablePort left × (drop (at + count) nets ≡ port_nets left) × ((found ++ p ∷ []) ++ left ≡ ps)
ports_more nets at count found ps p next is many =
    let size : count ≡ length (nets_of_port next.port) = many ∙ sym (port_length next.port next.writable) in (
      next.left,
      next.all,
      sym (drop-drop count at nets) ∙ ((λ i. drop (size i) (next.stands i)) ∙ drop-append_seam (nets_of_port next.port) (port_nets next.left)),
      append_assoc found (p ∷ []) next.left ∙ (ap (λ (q : NetPort). found ++ q ∷ next.left) is ∙ next.whole),
    )

pub no_port_left : (nets : List PortNet) (at : ℕ) (found ps : List NetPort) → drop at nets ≡ [] → PortsSoFar nets at found → AllByRecursion IsWritablePort ps → nets ≡ port_nets ps → found ≡ ps
no_port_left nets at found ps end far all same = let known = far ps all same in by known.0 known.1 known.2 known.3
  where
    by : (left : List NetPort) → AllByRecursion IsWritablePort left → drop at nets ≡ port_nets left → found ++ left ≡ ps → found ≡ ps
    by [] are stands whole = sym (append-nil found) ∙ whole
    by (p ∷ left) are stands whole = absurd (some_net p left are.0 (sym stands ∙ end))

-- the cell of a net of which only the declaration is known
abbrev pub unread : ℕ → ℕ
unread n = 0

-- a port of which only the declarations are known
abbrev pub declared_port : NetPort → NetPort
declared_port p = record { name = p.name; side = p.side; ty = p.ty; nets = map unread p.nets }

pub declared_append : (xs ys : List PortNet) → map declared_net (xs ++ ys) ≡ map declared_net xs ++ map declared_net ys
declared_append [] ys = refl
declared_append (x ∷ xs) ys = ap (λ more. declared_net x ∷ more) (declared_append xs ys)

-- widths and cells of the nets of ports
wide_in_roles : (name : List ℕ) (side : Side) (w : ℕ) (ns : List ℕ) (rs : List Role) → IsWidth w → HaveWidths (nets_in_roles name side w ns rs)
wide_in_roles name side w [] rs wide = tt
wide_in_roles name side w (n ∷ ns) [] wide = tt
wide_in_roles name side w (n ∷ ns) (r ∷ rs) wide = (by r, wide_in_roles name side w ns rs wide)
  where
    by : (q : Role) → IsWidth (bits w q)
    by AnsValue = wide
    by WriteValue = wide
    by q = (omega arith, omega arith)

number_width : (t : Type') → IsPortType t → IsWidth (number_bits t)
number_width Com is = (omega arith, omega arith)
number_width (Exp w) is = is
number_width (Var w) is = is
number_width (Pair a b) is = absurd is
number_width (Fun a b) is = absurd is

cells_number : (name : List ℕ) (side : Side) (w : ℕ) (ns : List ℕ) (rs : List Role) → AllByRecursion IsNumber ns → AllByRecursion (λ (n : PortNet). IsNumber n.cell) (nets_in_roles name side w ns rs)
cells_number name side w [] rs all = tt
cells_number name side w (n ∷ ns) [] all = tt
cells_number name side w (n ∷ ns) (r ∷ rs) all = (all.0, cells_number name side w ns rs all.1)

all_append : (P : PortNet → Type 0) (xs ys : List PortNet) → AllByRecursion P xs → AllByRecursion P ys → AllByRecursion P (xs ++ ys)
all_append P [] ys all_xs all_ys = all_ys
all_append P (x ∷ xs) ys all_xs all_ys = (all_xs.0, all_append P xs ys all_xs.1 all_ys)

pub wide_nets : (ps : List NetPort) → AllByRecursion IsWritablePort ps → HaveWidths (port_nets ps)
wide_nets [] all = tt
wide_nets (p ∷ ps) all =
    all_append (λ n. IsWidth n.width) (nets_of_port p) (port_nets ps) (wide_in_roles p.name p.side (number_bits p.ty) p.nets (roles p.ty) (number_width p.ty all.0.ty)) (wide_nets ps all.1)

pub number_nets : (ps : List NetPort) → AllByRecursion IsWritablePort ps → AllByRecursion (λ (n : PortNet). IsNumber n.cell) (port_nets ps)
number_nets [] all = tt
number_nets (p ∷ ps) all = all_append (λ n. IsNumber n.cell) (nets_of_port p) (port_nets ps) (cells_number p.name p.side (number_bits p.ty) p.nets (roles p.ty) all.0.nets) (number_nets ps all.1)
