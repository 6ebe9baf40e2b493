-- A net of a port is known by its name: the port's name and the role have one reading.
use Rattle.std.proofs.Common.{◌≡◌, ◌≢◌, ℕ, zero, suc, ◌<◌, List, [], ◌∷◌, ◌++◌, get_or, Some, refl, sym, ◌∙◌, ap, arith, slice_get}
use Rattle.std.specs.List.{AllByRecursion}
use Rattle.std.proofs.lemmas.List.{append_cancel_right}
use Rattle.gos_types.specs.Types.{Type', Com, Exp, Var, Pair, Fun}
use Rattle.gos_netlist.specs.Nets.{Side, NetPort}
use Rattle.gos_verilog.specs.declared.port_net.Role.{Role}
use Rattle.gos_verilog.specs.declared.port_net.Role.TheVariants.{Run, Done, Ask, Ans, AnsValue, Read, Write, WriteValue}
use Rattle.gos_verilog.specs.PortNets.{PortNet, suffix, roles, number_bits, nets_in_roles, nets_of_port, port_nets}

-- the bytes of the first from the last one on, before the second
abbrev turned : List ℕ → List ℕ → List ℕ
turned [] more = more
turned (b ∷ bytes) more = turned bytes (b ∷ more)

turned_append : (a s more : List ℕ) → turned (a ++ s) more ≡ turned s (turned a more)
turned_append [] s more = refl
turned_append (b ∷ a) s more = turned_append a s (b ∷ more)

roles_code : (a b : List ℕ) (r q : Role) → turned (suffix r) (turned a []) ≡ turned (suffix q) (turned b []) → r ≡ q
roles_code a b Run Run same = refl
roles_code a b Done Done same = refl
roles_code a b Ask Ask same = refl
roles_code a b Ans Ans same = refl
roles_code a b AnsValue AnsValue same = refl
roles_code a b Read Read same = refl
roles_code a b Write Write same = refl
roles_code a b WriteValue WriteValue same = refl
roles_code a b r q same =
    let last = ap (λ (bytes : List ℕ). get_or bytes 0 0) same in
    let before = ap (λ (bytes : List ℕ). get_or bytes 1 0) same in
    let sixth = ap (λ (bytes : List ℕ). get_or bytes 5 0) same in
    absurd (first_of (omega (arith, last), first_of (omega (arith, before), omega (arith, sixth))))

-- a name and a suffix have one reading
pub suffix_code : (a b : List ℕ) (r q : Role) → a ++ suffix r ≡ b ++ suffix q → (a ≡ b) × (r ≡ q)
suffix_code a b r q same =
    let role = roles_code a b r q (sym (turned_append a (suffix r) []) ∙ (ap (λ (bytes : List ℕ). turned bytes []) same ∙ turned_append b (suffix q) [])) in
    (append_cancel_right a b (suffix r) (same ∙ ap (λ (p : Role). b ++ suffix p) (sym role)), role)

-- no two nets have one name
abbrev pub AreNamesApart : List PortNet → Type 0
AreNamesApart [] = Unit {0}
AreNamesApart (n ∷ ns) = AllByRecursion (λ m. n.name ≢ m.name) ns × AreNamesApart ns

abbrev ArePortsApart : List NetPort → Type 0
ArePortsApart [] = Unit {0}
ArePortsApart (p ∷ ps) = AllByRecursion (λ q. p.name ≢ q.name) ps × ArePortsApart ps

abbrev AreRolesApart : List Role → Type 0
AreRolesApart [] = Unit {0}
AreRolesApart (r ∷ rs) = AllByRecursion (λ q. r ≢ q) rs × AreRolesApart rs

-- each net is the port's
abbrev AreOf : List ℕ → List PortNet → Type 0
AreOf name = AllByRecursion (λ n. (r : Role) × (n.name ≡ name ++ suffix r))

are_of : (name : List ℕ) (side : Side) (w : ℕ) (cells : List ℕ) (rs : List Role) → AreOf name (nets_in_roles name side w cells rs)
are_of name side w [] rs = tt
are_of name side w (c ∷ cells) [] = tt
are_of name side w (c ∷ cells) (r ∷ rs) = ((r, refl), are_of name side w cells rs)

others_apart : (name : List ℕ) (side : Side) (w : ℕ) (r : Role) (cells : List ℕ) (rs : List Role) → AllByRecursion (λ q. r ≢ q) rs
    → AllByRecursion (λ m. name ++ suffix r ≢ m.name) (nets_in_roles name side w cells rs)
others_apart name side w r [] rs apart = tt
others_apart name side w r (c ∷ cells) [] apart = tt
others_apart name side w r (c ∷ cells) (q ∷ rs) apart =
    ((λ same. apart.0 (suffix_code name name r q same).1), others_apart name side w r cells rs apart.1)

port_apart : (name : List ℕ) (side : Side) (w : ℕ) (cells : List ℕ) (rs : List Role) → AreRolesApart rs → AreNamesApart (nets_in_roles name side w cells rs)
port_apart name side w [] rs apart = tt
port_apart name side w (c ∷ cells) [] apart = tt
port_apart name side w (c ∷ cells) (r ∷ rs) apart = (others_apart name side w r cells rs apart.0, port_apart name side w cells rs apart.1)

roles_apart : (t : Type') → AreRolesApart (roles t)
roles_apart Com = (((λ e. cc e), tt), (tt, tt))
roles_apart (Exp w) = (((λ e. cc e), ((λ e. cc e), tt)), (((λ e. cc e), tt), (tt, tt)))
roles_apart (Var w) = (
  ((λ e. cc e), ((λ e. cc e), ((λ e. cc e), ((λ e. cc e), ((λ e. cc e), tt))))),
  (
    ((λ e. cc e), ((λ e. cc e), ((λ e. cc e), ((λ e. cc e), tt)))),
    (((λ e. cc e), ((λ e. cc e), ((λ e. cc e), tt))), (((λ e. cc e), ((λ e. cc e), tt)), (((λ e. cc e), tt), (tt, tt)))),
  ),
)
roles_apart (Pair a b) = tt
roles_apart (Fun a b) = tt

all_append : (P : PortNet → Type 0) (xs ys : List PortNet) → AllByRecursion P xs → AllByRecursion P ys → AllByRecursion P (xs ++ ys)
all_append P [] ys all_xs all_ys = all_ys
all_append P (x ∷ xs) ys all_xs all_ys = (all_xs.0, all_append P xs ys all_xs.1 all_ys)

-- nets of one port, and of another one
one_apart : (a b r : List ℕ) (role : Role) (ns : List PortNet) → a ≢ b → r ≡ a ++ suffix role → AreOf b ns → AllByRecursion (λ m. r ≢ m.name) ns
one_apart a b r role [] apart is of = tt
one_apart a b r role (n ∷ ns) apart is of =
    ((λ same. apart (suffix_code a b role of.0.0 (sym is ∙ (same ∙ of.0.1))).0), one_apart a b r role ns apart is of.1)

behind_apart : (a r : List ℕ) (role : Role) (ps : List NetPort) → r ≡ a ++ suffix role → AllByRecursion (λ q. a ≢ q.name) ps → AllByRecursion (λ m. r ≢ m.name) (port_nets ps)
behind_apart a r role [] is apart = tt
behind_apart a r role (p ∷ ps) is apart =
    all_append (λ m. r ≢ m.name) (nets_of_port p) (port_nets ps)
    (one_apart a p.name r role (nets_of_port p) apart.0 is (are_of p.name p.side (number_bits p.ty) p.nets (roles p.ty))) (behind_apart a r role ps is apart.1)

append_apart : (a : List ℕ) (ns : List PortNet) (ps : List NetPort) → AreOf a ns → AreNamesApart ns → AllByRecursion (λ q. a ≢ q.name) ps → AreNamesApart (port_nets ps)
    → AreNamesApart (ns ++ port_nets ps)
append_apart a [] ps of inner apart behind = behind
append_apart a (n ∷ ns) ps of inner apart behind = (
  all_append (λ m. n.name ≢ m.name) ns (port_nets ps) inner.0 (behind_apart a n.name of.0.0 ps of.0.1 apart),
  append_apart a ns ps of.1 inner.1 apart behind,
)

names_apart : (ps : List NetPort) → ArePortsApart ps → AreNamesApart (port_nets ps)
names_apart [] apart = tt
names_apart (p ∷ ps) apart =
    append_apart p.name (nets_of_port p) ps (are_of p.name p.side (number_bits p.ty) p.nets (roles p.ty))
    (port_apart p.name p.side (number_bits p.ty) p.nets (roles p.ty) (roles_apart p.ty)) apart.0 (names_apart ps apart.1)

-- the rule for names, from the first port on
ports_apart : (ps : List NetPort) → ((k j : ℕ) (p q : NetPort) → slice_get ps k ≡ Some p → j < k → slice_get ps j ≡ Some q → q.name ≢ p.name) → ArePortsApart ps
ports_apart [] rule = tt
ports_apart (p ∷ ps) rule =
    (first ps (λ k q is. rule (suc k) zero q p is (omega arith) refl), ports_apart ps (λ k j a b is before other. rule (suc k) (suc j) a b is (omega (arith, before)) other))
  where
    first : (qs : List NetPort) → ((k : ℕ) (q : NetPort) → slice_get qs k ≡ Some q → p.name ≢ q.name) → AllByRecursion (λ q. p.name ≢ q.name) qs
    first [] each = tt
    first (q ∷ qs) each = (each zero q refl, first qs (λ k a is. each (suc k) a is))

pub nets_apart : (ps : List NetPort) → ((k j : ℕ) (p q : NetPort) → slice_get ps k ≡ Some p → j < k → slice_get ps j ≡ Some q → q.name ≢ p.name) → AreNamesApart (port_nets ps)
nets_apart ps rule = names_apart ps (ports_apart ps rule)

differs_at : (a : List ℕ) (ns : List PortNet) (k : ℕ) (b : PortNet) → AllByRecursion (λ m. a ≢ m.name) ns → slice_get ns k ≡ Some b → a ≡ b.name → ⊥
differs_at a [] k b apart is same = cc is
differs_at a (n ∷ ns) zero b apart is same = let other : n ≡ b = cc is in apart.0 (same ∙ ap (λ (p : PortNet). p.name) (sym other))
differs_at a (n ∷ ns) (suc k) b apart is same = differs_at a ns k b apart.1 is same

-- nets of one name stand at one place
pub one_place : (ns : List PortNet) (j k : ℕ) (a b : PortNet) → AreNamesApart ns → slice_get ns j ≡ Some a → slice_get ns k ≡ Some b → a.name ≡ b.name → j ≡ k
one_place [] j k a b apart is_a is_b same = absurd (cc is_a)
one_place (n ∷ ns) zero zero a b apart is_a is_b same = refl
one_place (n ∷ ns) zero (suc k) a b apart is_a is_b same =
    let first : n ≡ a = cc is_a in absurd (differs_at n.name ns k b apart.0 is_b (ap (λ (p : PortNet). p.name) first ∙ same))
one_place (n ∷ ns) (suc j) zero a b apart is_a is_b same =
    let first : n ≡ b = cc is_b in absurd (differs_at n.name ns j a apart.0 is_a (ap (λ (p : PortNet). p.name) first ∙ sym same))
one_place (n ∷ ns) (suc j) (suc k) a b apart is_a is_b same = ap suc (one_place ns j k a b apart.1 is_a is_b same)
