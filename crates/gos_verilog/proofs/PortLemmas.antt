-- Ports are known by their nets in the module.
use Rattle.std.proofs.Common.{◌≡◌, ℕ, zero, suc, ◌<◌, Bool, true, false, List, [], ◌∷◌, ◌++◌, length, map, drop, get_or, Some, refl, sym, ◌∙◌, ap, subst, arith, slice_get}
use Rattle.std.specs.List.{AllByRecursion, list_all}
use Rattle.std.proofs.lemmas.Bool.{and_parts}
use Rattle.std.proofs.lemmas.List.Folds.{list_all-append}
use Rattle.gos_types.specs.Types.{Type', Com, Exp, Var, Pair, Fun}
use Rattle.gos_lex.specs.Bytes.{begins_name, continues_name}
use Rattle.gos_lex.specs.Names.{IsNameOrWord}
use Rattle.gos_netlist.specs.Nets.{Side, Give, Take, Cell, NetPort, Input}
use Rattle.gos_netlist.specs.Events.{is_input, net_count}
use Rattle.gos_types.specs.Events.{Request}
use Rattle.gos_netlist.specs.Writable.{IsNumber, IsPortType, IsWritablePort}
use Rattle.gos_netcheck.specs.PortRules.{place, places, IsEnd, FitsAt, AllFit}
use Rattle.gos_netcheck.specs.Rules.{Kept}
use Rattle.gos_verilog.specs.declared.port_net.Role.{Role}
use Rattle.gos_verilog.specs.declared.port_net.Role.TheVariants.{Run, Done, Ask, Ans, AnsValue, Read, Write, WriteValue}
use Rattle.gos_verilog.specs.PortNets.{PortNet, suffix, direction, bits, roles, number_bits, nets_in_roles, nets_of_port, port_nets}
use Rattle.gos_verilog.proofs.CodeLemmas.{AreNameBytes}
use Rattle.gos_verilog.proofs.ExpressionLemmas.{IsSmall, IsNetName}
use Rattle.gos_verilog.proofs.DeclarationLemmas.{IsBits}
use Rattle.gos_verilog.proofs.SuffixLemmas.{suffix_code}

suffix_bytes : (r : Role) → AreNameBytes (suffix r)
suffix_bytes Run = refl
suffix_bytes Done = refl
suffix_bytes Ask = refl
suffix_bytes Ans = refl
suffix_bytes AnsValue = refl
suffix_bytes Read = refl
suffix_bytes Write = refl
suffix_bytes WriteValue = refl

begins_continues : (b : ℕ) → begins_name b ≡ true → continues_name b ≡ true
begins_continues b begins = rw begins refl

-- the bytes of a port's name
pub name_bytes : (name : List ℕ) → IsNameOrWord name → AreNameBytes name
name_bytes [] is = refl
name_bytes (b ∷ name) is =
    let parts = and_parts (begins_name b) (list_all continues_name name) is.spelled in
    rw (begins_continues b parts.0, parts.1) refl

pub net_name : (name : List ℕ) (r : Role) → IsNameOrWord name → IsNetName (name ++ suffix r)
net_name [] r is = absurd (cc (is.spelled))
net_name (b ∷ name) r is =
    let parts = and_parts (begins_name b) (list_all continues_name name) is.spelled in
    record {
      bytes = list_all-append continues_name (b ∷ name) (suffix r) ∙ rw (name_bytes (b ∷ name) is, suffix_bytes r) refl;
      first = b;
      rest = name ++ suffix r;
      is = refl;
      begins = parts.0;
    }

-- what each net of a port has
pub record IsRightNet (n : PortNet) : Type 0 where
  pub name : IsNetName n.name
  pub width : IsBits n.width
  pub cell : IsSmall n.cell

right_in_roles : (name : List ℕ) (side : Side) (w : ℕ) (cells : List ℕ) (rs : List Role) → IsNameOrWord name → IsBits w → AllByRecursion IsNumber cells
    → AllByRecursion IsRightNet (nets_in_roles name side w cells rs)
right_in_roles name side w [] rs is wide all = tt
right_in_roles name side w (c ∷ cells) [] is wide all = tt
right_in_roles name side w (c ∷ cells) (r ∷ rs) is wide all =
    (record { name = net_name name r is; width = right_bits r; cell = omega (arith, all.0) }, right_in_roles name side w cells rs is wide all.1)
  where
    one : IsBits 1
    one = (omega arith, omega arith)

    right_bits : (q : Role) → IsBits (bits w q)
    right_bits AnsValue = wide
    right_bits WriteValue = wide
    right_bits q = one

type_bits : (t : Type') → IsPortType t → IsBits (number_bits t)
type_bits Com is = (omega arith, omega arith)
type_bits (Exp w) is = (is.0, omega (arith, is.1))
type_bits (Var w) is = (is.0, omega (arith, is.1))
type_bits (Pair a b) is = absurd is
type_bits (Fun a b) is = absurd is

all_append : (P : PortNet → Type 0) (xs ys : List PortNet) → AllByRecursion P xs → AllByRecursion P ys → AllByRecursion P (xs ++ ys)
all_append P [] ys all_xs all_ys = all_ys
all_append P (x ∷ xs) ys all_xs all_ys = (all_xs.0, all_append P xs ys all_xs.1 all_ys)

pub right_nets : (ps : List NetPort) → AllByRecursion IsWritablePort ps → AllByRecursion IsRightNet (port_nets ps)
right_nets [] all = tt
right_nets (p ∷ ps) all =
    all_append IsRightNet (nets_of_port p) (port_nets ps)
    (right_in_roles p.name p.side (number_bits p.ty) p.nets (roles p.ty) all.0.name (type_bits p.ty all.0.ty) all.0.nets) (right_nets ps all.1)

-- a cell of this number is an Input
abbrev pub IsInputCell : List Cell → ℕ → Type 0
IsInputCell cells n = (c : Cell) × (slice_get cells n ≡ Some c) × (c.gate ≡ Input)

abbrev pub IsOpen : List Cell → PortNet → Type 0
IsOpen cells n = n.input ≡ true → IsInputCell cells n.cell

open_in_roles : (cells : List Cell) (name : List ℕ) (side : Side) (w : ℕ) (ns : List ℕ) (rs : List Role)
    → Kept (λ i n. FitsAt cells (slice_get (map (λ role. place side (direction role) (bits w role)) rs) i) n) ns → AllByRecursion (IsOpen cells) (nets_in_roles name side w ns rs)
open_in_roles cells name side w [] rs fit = tt
open_in_roles cells name side w (n ∷ ns) [] fit = tt
open_in_roles cells name side w (n ∷ ns) (r ∷ rs) fit =
    ((λ input. let here = fit zero n refl in (here.0, here.1, subst (λ (b : Bool). IsEnd b here.0.gate) input here.3)), open_in_roles cells name side w ns rs (λ k m is. fit (suc k) m is))

open_of_type : (cells : List Cell) (name : List ℕ) (side : Side) (ns : List ℕ) (t : Type') → AllFit cells (places side t) ns → AllByRecursion (IsOpen cells) (nets_in_roles name side (number_bits t) ns (roles t))
open_of_type cells name side ns Com fit = open_in_roles cells name side 1 ns (roles Com) fit.1
open_of_type cells name side ns (Exp w) fit = open_in_roles cells name side w ns (roles (Exp w)) fit.1
open_of_type cells name side ns (Var w) fit = open_in_roles cells name side w ns (roles (Var w)) fit.1
open_of_type cells name side ns (Pair a b) fit = open_in_roles cells name side 1 ns [] fit.1
open_of_type cells name side ns (Fun a b) fit = open_in_roles cells name side 1 ns [] fit.1

pub open_nets : (cells : List Cell) (ps : List NetPort) → ((k : ℕ) (p : NetPort) → slice_get ps k ≡ Some p → AllFit cells (places p.side p.ty) p.nets) → AllByRecursion (IsOpen cells) (port_nets ps)
open_nets cells [] rule = tt
open_nets cells (p ∷ ps) rule =
    all_append (IsOpen cells) (nets_of_port p) (port_nets ps) (open_of_type cells p.name p.side p.nets p.ty (rule zero p refl)) (open_nets cells ps (λ k q is. rule (suc k) q is))

-- the side is known by the direction of requests
pub side_code : (s t : Side) → is_input s Request ≡ is_input t Request → s ≡ t
side_code Give Give same = refl
side_code Take Take same = refl
side_code Give Take same = absurd (cc same)
side_code Take Give same = absurd (cc same)

one_of_one : (ns : List ℕ) → length ns ≡ 1 → (a : ℕ) × (ns ≡ a ∷ [])
one_of_one [] long = absurd (omega (arith, long))
one_of_one (a ∷ []) long = (a, refl)
one_of_one (a ∷ b ∷ ns) long = absurd (omega (arith, long))

two_of_two : (ns : List ℕ) → length ns ≡ 2 → (a b : ℕ) × (ns ≡ a ∷ b ∷ [])
two_of_two [] long = absurd (omega (arith, long))
two_of_two (a ∷ ns) long = let rest = one_of_one ns (omega (arith, long)) in (a, rest.0, ap (λ more. a ∷ more) rest.1)

three_of_three : (ns : List ℕ) → length ns ≡ 3 → (a b c : ℕ) × (ns ≡ a ∷ b ∷ c ∷ [])
three_of_three [] long = absurd (omega (arith, long))
three_of_three (a ∷ ns) long = let rest = two_of_two ns (omega (arith, long)) in (a, rest.0, rest.1, ap (λ more. a ∷ more) rest.2)

six_of_six : (ns : List ℕ) → length ns ≡ 6 → (a b c d e f : ℕ) × (ns ≡ a ∷ b ∷ c ∷ d ∷ e ∷ f ∷ [])
six_of_six [] long = absurd (omega (arith, long))
six_of_six (a ∷ []) long = absurd (omega (arith, long))
six_of_six (a ∷ b ∷ []) long = absurd (omega (arith, long))
six_of_six (a ∷ b ∷ c ∷ ns) long =
    let rest = three_of_three ns (omega (arith, long)) in (a, b, c, rest.0, rest.1, rest.2, ap (λ more. a ∷ b ∷ c ∷ more) rest.3)

none : PortNet
none = record { name = []; input = false; width = 0; cell = 0 }

-- what two ports with one list of nets share
abbrev Same : List ℕ → List ℕ → Side → Side → Type' → Type' → List ℕ → List ℕ → List PortNet → List PortNet → Type 0
Same a b s t one other ns ms x y = (a ≡ b) × (s ≡ t) × (one ≡ other) × (ns ≡ ms) × (x ≡ y)

abbrev nets_from : List ℕ → Side → Type' → List ℕ → List PortNet → List PortNet
nets_from name side t ns x = nets_in_roles name side (number_bits t) ns (roles t) ++ x

com_code : (a b : List ℕ) (s t : Side) (ns ms : List ℕ) (x y : List PortNet) → length ns ≡ 2 → length ms ≡ 2 → nets_from a s Com ns x ≡ nets_from b t Com ms y → Same a b s t Com Com ns ms x y
com_code a b s t ns ms x y long_n long_m same =
    let n = two_of_two ns long_n in
    let m = two_of_two ms long_m in
    let both : nets_from a s Com (n.0 ∷ n.1 ∷ []) x ≡ nets_from b t Com (m.0 ∷ m.1 ∷ []) y =
    ap (λ (l : List ℕ). nets_from a s Com l x) (sym n.2) ∙ (same ∙ ap (λ (l : List ℕ). nets_from b t Com l y) m.2) in
    let c0 : n.0 ≡ m.0 = ap (λ (l : List PortNet). (get_or l 0 none).cell) both in
    let c1 : n.1 ≡ m.1 = ap (λ (l : List PortNet). (get_or l 1 none).cell) both in (
      (suffix_code a b Run Run (ap (λ (l : List PortNet). (get_or l 0 none).name) both)).0,
      side_code s t (ap (λ (l : List PortNet). (get_or l 0 none).input) both),
      refl,
      n.2 ∙ ((λ i. c0 i ∷ c1 i ∷ []) ∙ sym m.2),
      ap (λ (l : List PortNet). drop 2 l) both,
    )

exp_code : (a b : List ℕ) (s t : Side) (v w : ℕ) (ns ms : List ℕ) (x y : List PortNet) → length ns ≡ 3 → length ms ≡ 3 → nets_from a s (Exp v) ns x ≡ nets_from b t (Exp w) ms y
    → Same a b s t (Exp v) (Exp w) ns ms x y
exp_code a b s t v w ns ms x y long_n long_m same =
    let n = three_of_three ns long_n in
    let m = three_of_three ms long_m in
    let both : nets_from a s (Exp v) (n.0 ∷ n.1 ∷ n.2 ∷ []) x ≡ nets_from b t (Exp w) (m.0 ∷ m.1 ∷ m.2 ∷ []) y =
    ap (λ (l : List ℕ). nets_from a s (Exp v) l x) (sym n.3) ∙ (same ∙ ap (λ (l : List ℕ). nets_from b t (Exp w) l y) m.3) in
    let c0 : n.0 ≡ m.0 = ap (λ (l : List PortNet). (get_or l 0 none).cell) both in
    let c1 : n.1 ≡ m.1 = ap (λ (l : List PortNet). (get_or l 1 none).cell) both in
    let c2 : n.2 ≡ m.2 = ap (λ (l : List PortNet). (get_or l 2 none).cell) both in (
      (suffix_code a b Ask Ask (ap (λ (l : List PortNet). (get_or l 0 none).name) both)).0,
      side_code s t (ap (λ (l : List PortNet). (get_or l 0 none).input) both),
      ap Exp (ap (λ (l : List PortNet). (get_or l 2 none).width) both),
      n.3 ∙ ((λ i. c0 i ∷ c1 i ∷ c2 i ∷ []) ∙ sym m.3),
      ap (λ (l : List PortNet). drop 3 l) both,
    )

var_code : (a b : List ℕ) (s t : Side) (v w : ℕ) (ns ms : List ℕ) (x y : List PortNet) → length ns ≡ 6 → length ms ≡ 6 → nets_from a s (Var v) ns x ≡ nets_from b t (Var w) ms y
    → Same a b s t (Var v) (Var w) ns ms x y
var_code a b s t v w ns ms x y long_n long_m same =
    let n = six_of_six ns long_n in
    let m = six_of_six ms long_m in
    let both : nets_from a s (Var v) (n.0 ∷ n.1 ∷ n.2 ∷ n.3 ∷ n.4 ∷ n.5 ∷ []) x ≡ nets_from b t (Var w) (m.0 ∷ m.1 ∷ m.2 ∷ m.3 ∷ m.4 ∷ m.5 ∷ []) y =
    ap (λ (l : List ℕ). nets_from a s (Var v) l x) (sym n.6) ∙ (same ∙ ap (λ (l : List ℕ). nets_from b t (Var w) l y) m.6) in
    let c0 : n.0 ≡ m.0 = ap (λ (l : List PortNet). (get_or l 0 none).cell) both in
    let c1 : n.1 ≡ m.1 = ap (λ (l : List PortNet). (get_or l 1 none).cell) both in
    let c2 : n.2 ≡ m.2 = ap (λ (l : List PortNet). (get_or l 2 none).cell) both in
    let c3 : n.3 ≡ m.3 = ap (λ (l : List PortNet). (get_or l 3 none).cell) both in
    let c4 : n.4 ≡ m.4 = ap (λ (l : List PortNet). (get_or l 4 none).cell) both in
    let c5 : n.5 ≡ m.5 = ap (λ (l : List PortNet). (get_or l 5 none).cell) both in (
      (suffix_code a b Read Read (ap (λ (l : List PortNet). (get_or l 0 none).name) both)).0,
      side_code s t (ap (λ (l : List PortNet). (get_or l 0 none).input) both),
      ap Var (ap (λ (l : List PortNet). (get_or l 2 none).width) both),
      n.6 ∙ ((λ i. c0 i ∷ c1 i ∷ c2 i ∷ c3 i ∷ c4 i ∷ c5 i ∷ []) ∙ sym m.6),
      ap (λ (l : List PortNet). drop 6 l) both,
    )

-- ports of different sorts have different first nets
first_net : (name : List ℕ) (side : Side) (w : ℕ) (r : Role) (ns : List ℕ) (rs : List Role) (x : List PortNet) → 0 < length ns
    → (get_or (nets_in_roles name side w ns (r ∷ rs) ++ x) 0 none).name ≡ name ++ suffix r
first_net name side w r [] rs x some = absurd (omega (arith, some))
first_net name side w r (n ∷ ns) rs x some = refl

unlike : (a b : List ℕ) (s t : Side) (v w : ℕ) (r q : Role) (rs qs : List Role) (ns ms : List ℕ) (x y : List PortNet) → 0 < length ns → 0 < length ms
    → nets_in_roles a s v ns (r ∷ rs) ++ x ≡ nets_in_roles b t w ms (q ∷ qs) ++ y → r ≡ q
unlike a b s t v w r q rs qs ns ms x y some_n some_m same =
    (suffix_code a b r q (sym (first_net a s v r ns rs x some_n) ∙ (ap (λ (l : List PortNet). (get_or l 0 none).name) same ∙ first_net b t w q ms qs y some_m))).1

type_code : (a b : List ℕ) (s t : Side) (one other : Type') (ns ms : List ℕ) (x y : List PortNet) → IsPortType one → IsPortType other → length ns ≡ net_count one → length ms ≡ net_count other
    → nets_from a s one ns x ≡ nets_from b t other ms y → Same a b s t one other ns ms x y
type_code a b s t Com Com ns ms x y p q n m same = com_code a b s t ns ms x y n m same
type_code a b s t (Exp v) (Exp w) ns ms x y p q n m same = exp_code a b s t v w ns ms x y n m same
type_code a b s t (Var v) (Var w) ns ms x y p q n m same = var_code a b s t v w ns ms x y n m same
type_code a b s t Com (Exp w) ns ms x y p q n m same =
    absurd (let role = unlike a b s t 1 w Run Ask (Done ∷ []) (Ans ∷ AnsValue ∷ []) ns ms x y (omega (arith, n)) (omega (arith, m)) same in cc role)
type_code a b s t Com (Var w) ns ms x y p q n m same =
    absurd (let role = unlike a b s t 1 w Run Read (Done ∷ []) (Ans ∷ AnsValue ∷ Write ∷ WriteValue ∷ Done ∷ []) ns ms x y (omega (arith, n)) (omega (arith, m)) same in cc role)
type_code a b s t (Exp v) Com ns ms x y p q n m same =
    absurd (let role = unlike a b s t v 1 Ask Run (Ans ∷ AnsValue ∷ []) (Done ∷ []) ns ms x y (omega (arith, n)) (omega (arith, m)) same in cc role)
type_code a b s t (Exp v) (Var w) ns ms x y p q n m same =
    absurd (let role = unlike a b s t v w Ask Read (Ans ∷ AnsValue ∷ []) (Ans ∷ AnsValue ∷ Write ∷ WriteValue ∷ Done ∷ []) ns ms x y (omega (arith, n)) (omega (arith, m)) same in cc role)
type_code a b s t (Var v) Com ns ms x y p q n m same =
    absurd (let role = unlike a b s t v 1 Read Run (Ans ∷ AnsValue ∷ Write ∷ WriteValue ∷ Done ∷ []) (Done ∷ []) ns ms x y (omega (arith, n)) (omega (arith, m)) same in cc role)
type_code a b s t (Var v) (Exp w) ns ms x y p q n m same =
    absurd (let role = unlike a b s t v w Read Ask (Ans ∷ AnsValue ∷ Write ∷ WriteValue ∷ Done ∷ []) (Ans ∷ AnsValue ∷ []) ns ms x y (omega (arith, n)) (omega (arith, m)) same in cc role)
type_code a b s t (Pair c d) other ns ms x y p q n m same = absurd p
type_code a b s t (Fun c d) other ns ms x y p q n m same = absurd p
type_code a b s t one (Pair c d) ns ms x y p q n m same = absurd q
type_code a b s t one (Fun c d) ns ms x y p q n m same = absurd q

-- a port has a net
pub some_net : (p : NetPort) (ps : List NetPort) → IsWritablePort p → port_nets (p ∷ ps) ≡ [] → ⊥
some_net p ps is same = by p.ty p.nets is.ty is.many same
  where
    by : (t : Type') (ns : List ℕ) → IsPortType t → length ns ≡ net_count t → nets_in_roles p.name p.side (number_bits t) ns (roles t) ++ port_nets ps ≡ [] → ⊥
    by Com [] q n e = omega (arith, n)
    by Com (a ∷ ns) q n e = cc e
    by (Exp w) [] q n e = omega (arith, n)
    by (Exp w) (a ∷ ns) q n e = cc e
    by (Var w) [] q n e = omega (arith, n)
    by (Var w) (a ∷ ns) q n e = cc e
    by (Pair c d) ns q n e = q
    by (Fun c d) ns q n e = q

pub ports_code : (ps qs : List NetPort) → AllByRecursion IsWritablePort ps → AllByRecursion IsWritablePort qs → port_nets ps ≡ port_nets qs → ps ≡ qs
ports_code [] [] all_p all_q same = refl
ports_code [] (q ∷ qs) all_p all_q same = absurd (some_net q qs all_q.0 (sym same))
ports_code (p ∷ ps) [] all_p all_q same = absurd (some_net p ps all_p.0 same)
ports_code (p ∷ ps) (q ∷ qs) all_p all_q same =
    let one = type_code p.name q.name p.side q.side p.ty q.ty p.nets q.nets (port_nets ps) (port_nets qs) all_p.0.ty all_q.0.ty all_p.0.many all_q.0.many same in
    let rest = ports_code ps qs all_p.1 all_q.1 one.4 in
    (λ i. record { name = one.0 i; side = one.1 i; ty = one.2 i; nets = one.3 i } ∷ rest i)
