-- The head of a module names ports: what may be left behind its start is what makes the text one of the form.
use Rattle.std.proofs.Common.{◌≡◌, ◌≢◌, ◌⊎◌, inl, inr, ℕ, zero, suc, ◌+◌, ◌-◌, ◌<◌, ◌≤◌, true, List, [], ◌∷◌, ◌++◌, length, length-drop, drop, map, Some, refl, sym, ◌∙◌, ap, subst, arith, slice_get, append_assoc, append-nil, length-append, codes}
use Rattle.std.specs.List.{AllByRecursion, flat_map}
use Rattle.std.proofs.lemmas.List.{append_cancel_left}
use Rattle.std.proofs.lemmas.Option.{slice_get_within}
use Rattle.gos_lex.specs.Names.{IsNameOrWord}
use Rattle.gos_types.specs.Types.{Type', Com, Exp, Var, Pair, Fun}
use Rattle.gos_netlist.specs.Nets.{Side, Give, Take, NetPort}
use Rattle.gos_netlist.specs.Writable.{IsNumber, IsPortType, IsWritablePort}
use Rattle.gos_netcheck.specs.Rules.{Kept}
use Rattle.gos_verilog.specs.declared.port_net.Role.{Role}
use Rattle.gos_verilog.specs.declared.port_net.Role.TheVariants.{Run, Ask, Read}
use Rattle.gos_verilog.specs.PortNets.{PortNet, suffix, roles, number_bits, nets_in_roles, port_nets}
use Rattle.gos_verilog.specs.Lines.{clock_declarations, port_declaration, cell_declarations}
use Rattle.gos_verilog.specs.VerilogText.{first_name, declarations, outputs}
use Rattle.gos_verilog.specs.Readable.{HasOwnName}
use Rattle.gos_verilog.specs.Place.{IsFormedText, ArePorts, HasHead, head_of}
use Rattle.gos_verilog.specs.inner.Parts.{front_of}
use Rattle.std.proofs.Math.Seq.{drop-append_seam}
use Rattle.gos_verilog.specs.declared.fault.VFault.{VFault}
use Rattle.gos_verilog.specs.declared.fault.VFault.TheVariants as faults
use Rattle.gos_verilog.specs.inner.Stages.{BreaksAt, IsStart, start_text}
use Rattle.gos_verilog.specs.inner.Breaks.{FaultFrom, Leads, LeadsOn}
use Rattle.gos_verilog.specs.inner.Left.{is_first, LeftNets, named_nets}
use Rattle.gos_verilog.specs.inner.Faces.{Face', roles_from, names_in, port_text, IsOther, AreNewFaces, IsFaceOf, named_faces, head_end, LeftFirst, HasPorts}
use Rattle.gos_verilog.proofs.CodeLemmas.{name_code}
use Rattle.gos_verilog.proofs.DeclarationLemmas.{listed}
use Rattle.gos_verilog.proofs.PortLemmas.{name_bytes}
use Rattle.gos_verilog.proofs.OneTextLemmas.{first_bytes}
use Rattle.gos_verilog.proofs.NamedLemmas.{by_roles, role_count, in_role}
use Rattle.gos_verilog.proofs.FormedLemmas.{head_on, head_back, head_parts}
use Rattle.gos_verilog.proofs.PlaceLemmas.{start_is, start_misses}
use Rattle.gos_verilog.proofs.BreakLemmas.{item_breaks, passed_at}
use Rattle.gos_verilog.proofs.FreeLemmas.{first_role}

-- a port's face, and a port of a face
abbrev kind_of : Type' → Role
kind_of Com = Run
kind_of (Exp w) = Ask
kind_of t = Read

abbrev face_of : NetPort → Face'
face_of p = (kind_of p.ty, p.name)

abbrev faces_of : List NetPort → List Face'
faces_of [] = []
faces_of (p ∷ ps) = face_of p ∷ faces_of ps

abbrev type_of : Role → Type'
type_of Run = Com
type_of Ask = Exp 1
type_of r = Var 1

abbrev nothings : List Role → List ℕ
nothings [] = []
nothings (r ∷ rs) = 0 ∷ nothings rs

abbrev port_of : Face' → NetPort
port_of v = record { name = v.1; side = Take; ty = type_of v.0; nets = nothings (roles_from v.0) }

abbrev ports_of : List Face' → List NetPort
ports_of [] = []
ports_of (v ∷ vs) = port_of v ∷ ports_of vs

kind_roles : (t : Type') → IsPortType t → roles t ≡ roles_from (kind_of t)
kind_roles Com is = refl
kind_roles (Exp w) is = refl
kind_roles (Var w) is = refl
kind_roles (Pair a b) is = absurd is
kind_roles (Fun a b) is = absurd is

kind_first : (t : Type') → IsPortType t → is_first (kind_of t) ≡ true
kind_first Com is = refl
kind_first (Exp w) is = refl
kind_first (Var w) is = refl
kind_first (Pair a b) is = absurd is
kind_first (Fun a b) is = absurd is

port_writable : (v : Face') → is_first v.0 ≡ true → IsNameOrWord v.1 → IsWritablePort (port_of v)
port_writable v first named =
    first_role (λ r. IsWritablePort (port_of (r, v.1))) v.0 first
    (record { name = named; ty = tt; many = refl; nets = (omega arith, (omega arith, tt)) })
    (record { name = named; ty = (omega arith, omega arith); many = refl; nets = (omega arith, (omega arith, (omega arith, tt))) })
    (record { name = named; ty = (omega arith, omega arith); many = refl; nets = (omega arith, (omega arith, (omega arith, (omega arith, (omega arith, (omega arith, tt)))))) })

face_back : (v : Face') → is_first v.0 ≡ true → face_of (port_of v) ≡ v
face_back v first = first_role (λ r. face_of (port_of (r, v.1)) ≡ (r, v.1)) v.0 first refl refl refl

-- the names of the nets of ports
listed_in : (name : List ℕ) (side : Side) (w : ℕ) (cells : List ℕ) (rs : List Role) (ns : List PortNet) → length cells ≡ length rs → listed (nets_in_roles name side w cells rs ++ ns) ≡ names_in name rs ++ listed ns
listed_in name side w [] [] ns many = refl
listed_in name side w [] (r ∷ rs) ns many = absurd (omega (arith, many))
listed_in name side w (c ∷ cells) [] ns many = absurd (omega (arith, many))
listed_in name side w (c ∷ cells) (r ∷ rs) ns many =
    ap (λ (rest : List ℕ). (codes ", " ++ (name ++ suffix r)) ++ rest) (listed_in name side w cells rs ns (omega (arith, many)))
    ∙ sym (append_assoc (codes ", " ++ (name ++ suffix r)) (names_in name rs) (listed ns))

count_of : (p : NetPort) → IsWritablePort p → length p.nets ≡ length (roles p.ty)
count_of p is = is.many ∙ role_count p.ty is.ty

listed_faces : (ps : List NetPort) → AllByRecursion IsWritablePort ps → listed (port_nets ps) ≡ flat_map port_text (faces_of ps)
listed_faces [] all = refl
listed_faces (p ∷ ps) all =
    listed_in p.name p.side (number_bits p.ty) p.nets (roles p.ty) (port_nets ps) (count_of p all.0)
    ∙ (λ i. names_in p.name (kind_roles p.ty all.0.ty i) ++ listed_faces ps all.1 i)

named_same : (ps : List NetPort) → AllByRecursion IsWritablePort ps → named_nets ps ≡ named_faces (faces_of ps)
named_same [] all = refl
named_same (p ∷ ps) all =
    (λ i. by_roles p.name p.nets (roles p.ty) (count_of p all.0) i ++ named_same ps all.1 i)
    ∙ ap (λ (rs : List Role). map (in_role p.name) rs ++ named_faces (faces_of ps)) (kind_roles p.ty all.0.ty)

faces_count : (ps : List NetPort) → length (faces_of ps) ≡ length ps
faces_count [] = refl
faces_count (p ∷ ps) = ap suc (faces_count ps)

ports_count : (vs : List Face') → length (ports_of vs) ≡ length vs
ports_count [] = refl
ports_count (v ∷ vs) = ap suc (ports_count vs)

-- ports of names of their own, as ports behind others
get_last : (A : Type 0) (xs : List A) (x : A) (ys : List A) → slice_get (xs ++ x ∷ ys) (length xs) ≡ Some x
get_last A [] x ys = refl
get_last A (y ∷ xs) x ys = get_last A xs x ys

get_front : (A : Type 0) (xs ys : List A) (k : ℕ) (x : A) → slice_get xs k ≡ Some x → slice_get (xs ++ ys) k ≡ Some x
get_front A [] ys k x is = absurd (omega (arith, slice_get_within [] k x is))
get_front A (y ∷ xs) ys zero x is = is
get_front A (y ∷ xs) ys (suc k) x is = get_front A xs ys k x is

faces_snoc : (ps : List NetPort) (p : NetPort) → faces_of (ps ++ p ∷ []) ≡ faces_of ps ++ face_of p ∷ []
faces_snoc [] p = refl
faces_snoc (q ∷ ps) p = ap (λ (rest : List Face'). face_of q ∷ rest) (faces_snoc ps p)

others_before : (name : List ℕ) (ps : List NetPort) → ((j : ℕ) (q : NetPort) → slice_get ps j ≡ Some q → q.name ≢ name) → IsOther name (faces_of ps)
others_before name [] each = tt
others_before name (p ∷ ps) each = (each zero p refl, others_before name ps (λ j q is. each (suc j) q is))

abbrev AreOwn : List NetPort → Type 0
AreOwn ps = (k j : ℕ) (p q : NetPort) → slice_get ps k ≡ Some p → j < k → slice_get ps j ≡ Some q → q.name ≢ p.name

new_faces : (before more : List NetPort) → AllByRecursion IsWritablePort more → AreOwn (before ++ more) → AreNewFaces (faces_of before) (faces_of more)
new_faces before [] all own = tt
new_faces before (p ∷ more) all own = (
  (
    kind_first p.ty all.0.ty,
    all.0.name,
    others_before p.name before
        (λ j q is. own (length before) j p q (get_last NetPort before p more) (slice_get_within before j q is) (get_front NetPort before (p ∷ more) j q is)),
  ),
  subst (λ (faces : List Face'). AreNewFaces faces (faces_of more)) (faces_snoc before p)
      (new_faces (before ++ p ∷ []) more all.1 (subst AreOwn (sym (append_assoc before (p ∷ []) more)) own)),
)

-- and back
abbrev AreApart : List Face' → Type 0
AreApart vs = (k j : ℕ) (v u : Face') → slice_get vs k ≡ Some v → j < k → slice_get vs j ≡ Some u → u.1 ≢ v.1

get_snoc : (vs : List Face') (s : Face') (k : ℕ) (v : Face') → slice_get (vs ++ s ∷ []) k ≡ Some v → slice_get vs k ≡ Some v ⊎ ((k ≡ length vs) × (v ≡ s))
get_snoc [] s zero v is = let same : s ≡ v = cc is in inr (refl, sym same)
get_snoc [] s (suc k) v is = absurd (cc is)
get_snoc (u ∷ vs) s zero v is = inl is
get_snoc (u ∷ vs) s (suc k) v is = elim (get_snoc vs s k v is) [ inl before ↦ inl before | inr last ↦ inr (ap suc last.0, last.1) ]

other_at : (name : List ℕ) (vs : List Face') (j : ℕ) (u : Face') → IsOther name vs → slice_get vs j ≡ Some u → u.1 ≢ name
other_at name [] j u all is = absurd (omega (arith, slice_get_within [] j u is))
other_at name (v ∷ vs) zero u all is = λ same. let here : v ≡ u = cc is in all.0 (ap (λ (w : Face'). w.1) here ∙ same)
other_at name (v ∷ vs) (suc j) u all is = other_at name vs j u all.1 is

apart_snoc : (vs : List Face') (s : Face') → AreApart vs → IsOther s.1 vs → AreApart (vs ++ s ∷ [])
apart_snoc vs s apart other k j v u at before is same =
    elim (get_snoc vs s k v at) [
      | inl inside ↦ elim (get_snoc vs s j u is) [
        | inl both ↦ apart k j v u inside before both same
        | inr last ↦ omega (arith, last.0, before, slice_get_within vs k v inside)
      ]
      | inr last ↦ elim (get_snoc vs s j u is) [
        | inl inside ↦ other_at s.1 vs j u other inside (same ∙ ap (λ (w : Face'). w.1) last.1)
        | inr both ↦ omega (arith, last.0, both.0, before)
      ]
    ]

all_apart : (before more : List Face') → AreApart before → AreNewFaces before more → AreApart (before ++ more)
all_apart before [] apart new = subst AreApart (sym (append-nil before)) apart
all_apart before (s ∷ more) apart new =
    subst AreApart (append_assoc before (s ∷ []) more) (all_apart (before ++ s ∷ []) more (apart_snoc before s apart new.0.2) new.1)

one_apart : (v : Face') → AreApart (v ∷ [])
one_apart v k j a b at before is same = omega (arith, before, slice_get_within (v ∷ []) k a at)

port_face : (vs : List Face') (k : ℕ) (p : NetPort) → slice_get (ports_of vs) k ≡ Some p → (v : Face') × (slice_get vs k ≡ Some v) × (v.1 ≡ p.name)
port_face [] k p is = absurd (omega (arith, slice_get_within [] k p is))
port_face (v ∷ vs) zero p is = let here : port_of v ≡ p = cc is in (v, refl, ap (λ (q : NetPort). q.name) here)
port_face (v ∷ vs) (suc k) p is = port_face vs k p is

own_names : (vs : List Face') → AreApart vs → Kept (HasOwnName (ports_of vs)) (ports_of vs)
own_names vs apart k p at j q before is same =
    let one = port_face vs k p at in
    let other = port_face vs j q is in
    apart k j one.0 other.0 one.1 before other.1 (other.2 ∙ (same ∙ sym one.2))

-- ports of faces
new_all : (before more : List Face') → AreNewFaces before more → AllByRecursion IsWritablePort (ports_of more)
new_all before [] new = tt
new_all before (v ∷ more) new = (port_writable v new.0.0 new.0.1, new_all (before ++ v ∷ []) more new.1)

new_back : (before more : List Face') → AreNewFaces before more → faces_of (ports_of more) ≡ more
new_back before [] new = refl
new_back before (v ∷ more) new = λ i. face_back v new.0.0 i ∷ new_back (before ++ v ∷ []) more new.1 i

-- the ports of a head
record Found (name : List ℕ) (v : Face') (more : List Face') (rest : List ℕ) : Type 0 where
  ports : List NetPort
  are : ArePorts ports
  same : faces_of ports ≡ v ∷ more
  text : head_of ports ++ rest ≡ start_text name ++ (flat_map port_text (v ∷ more) ++ (head_end ++ rest))

found : (name : List ℕ) (v : Face') (more : List Face') (rest : List ℕ) → IsNameOrWord name → IsFaceOf name v → AreNewFaces (v ∷ []) more → IsNumber (length (v ∷ more)) → Found name v more rest
found name v more rest is of new few =
    let ports : List NetPort = ports_of (v ∷ more) in
    let named : IsNameOrWord v.1 = subst IsNameOrWord (sym of.1) is in
    let writable : AllByRecursion IsWritablePort ports = (port_writable v of.0 named, new_all (v ∷ []) more new) in
    let same : faces_of ports ≡ v ∷ more = (λ i. face_back v of.0 i ∷ new_back (v ∷ []) more new i) in
    let behind : List ℕ = codes ");\n" ++ (clock_declarations ++ rest) in
    record {
      ports = ports;
      are = record {
        writable = writable;
        count = subst IsNumber (sym (ports_count (v ∷ more))) few;
        some = omega arith;
        names = own_names (v ∷ more) (all_apart (v ∷ []) more (one_apart v) new);
      };
      same = same;
      text = head_parts ports rest
          ∙ (ap (λ (b : List ℕ). codes "module gos_" ++ (v.1 ++ (codes "(clk, rst" ++ (b ++ behind)))) (listed_faces ports writable ∙ ap (flat_map port_text) same)
          ∙ (ap (λ (b : List ℕ). codes "module gos_" ++ (b ++ (codes "(clk, rst" ++ (flat_map port_text (v ∷ more) ++ behind)))) of.1
          ∙ start_is name (flat_map port_text (v ∷ more) ++ behind)));
    }

pub ports_head : (name bytes text : List ℕ) → IsNameOrWord name → HasPorts name bytes → text ≡ start_text name ++ bytes → HasHead text
ports_head name bytes text is has whole =
    let known = found name has.first has.more has.rest is has.of has.new has.few in
    (known.ports, has.rest, known.are, whole ∙ (ap (λ (b : List ℕ). start_text name ++ b) has.is ∙ sym known.text))

start_on : (name x : List ℕ) → IsNameOrWord name → LeftFirst name x → IsFormedText (start_text name ++ x)
start_on name x is (v, left_behind, of, (more, rest, new, few, left, inner), whole) =
    let known = found name v more rest is of new few in
    let nets = subst (λ (named : List (Role × List ℕ)). LeftNets [] Give 0 named rest) (sym (named_same known.ports known.are.writable ∙ ap named_faces known.same)) left in
    subst IsFormedText
    (known.text
    ∙ ap (λ (b : List ℕ). start_text name ++ b)
    (append_assoc (port_text v) (flat_map port_text more) (head_end ++ rest) ∙ (ap (λ (b : List ℕ). port_text v ++ b) (sym inner) ∙ sym whole)))
    (head_on known.ports rest known.are nets)

start_back : (name x : List ℕ) → IsNameOrWord name → IsFormedText (start_text name ++ x) → LeftFirst name x
start_back name x named (net, formed, (drivers, lines, is)) =
    let qs : List NetPort = net.ports in
    let behind : List ℕ = cell_declarations 0 net.cells ++ (drivers ++ outputs net) in
    let y : List ℕ = flat_map port_declaration (port_nets qs) ++ behind in
    let split : declarations net ++ drivers ++ outputs net ≡ head_of qs ++ y =
    append_assoc (declarations net) drivers (outputs net)
    ∙ (append_assoc (front_of qs) (cell_declarations 0 net.cells) (drivers ++ outputs net) ∙ append_assoc (head_of qs) (flat_map port_declaration (port_nets qs)) behind) in
    let are : ArePorts qs = record { writable = formed.writable.ports; count = formed.writable.port_count; some = formed.some; names = formed.names } in
    let left = head_back qs y are (net, formed, (drivers, lines, sym split)) in
    let last : List ℕ = codes ");\n" ++ (clock_declarations ++ y) in
    let whole : codes "module gos_" ++ (name ++ (codes "(clk, rst" ++ x)) ≡ codes "module gos_" ++ (first_name qs ++ (codes "(clk, rst" ++ (listed (port_nets qs) ++ last))) =
    start_is name x ∙ (is ∙ (split ∙ head_parts qs y)) in
    let inner = append_cancel_left (codes "module gos_") (name ++ (codes "(clk, rst" ++ x)) (first_name qs ++ (codes "(clk, rst" ++ (listed (port_nets qs) ++ last))) whole in
    let one = name_code name (first_name qs) 40 40 (codes "clk, rst" ++ x) (codes "clk, rst" ++ (listed (port_nets qs) ++ last)) (name_bytes name named) (first_bytes qs are.writable) refl refl inner in
    let rest : x ≡ listed (port_nets qs) ++ last = append_cancel_left (codes "(clk, rst") x (listed (port_nets qs) ++ last) one.1 in
    by y qs are one.0 (rest ∙ ap (λ (b : List ℕ). b ++ last) (listed_faces qs are.writable)) (subst (λ (list : List (Role × List ℕ)). LeftNets [] Give 0 list y) (named_same qs are.writable) left)
  where
    by : (y : List ℕ) (qs : List NetPort) → ArePorts qs → name ≡ first_name qs → x ≡ flat_map port_text (faces_of qs) ++ (codes ");\n" ++ (clock_declarations ++ y)) → LeftNets [] Give 0 (named_faces (faces_of qs)) y → LeftFirst name x
    by y [] are same is left = absurd (omega (arith, are.some))
    by y (p ∷ ps) are same is left = (
      face_of p,
      flat_map port_text (faces_of ps) ++ (head_end ++ y),
      (kind_first p.ty are.writable.0.ty, sym same),
      (faces_of ps, y, new_faces (p ∷ []) ps are.writable.1 (λ k j a b at before other. are.names k a at j b before other), subst IsNumber (sym (faces_count (p ∷ ps))) are.count, left, refl),
      is ∙ append_assoc (port_text (face_of p)) (flat_map port_text (faces_of ps)) (head_end ++ y),
    )

-- the start leads to the names of the nets of ports
pub start_leads : (name : List ℕ) → IsNameOrWord name → Leads IsFormedText (LeftFirst name) (start_text name)
start_leads name is = record { on = λ x left. start_on name x is left; back = λ x formed. start_back name x is formed }

-- at a cursor
pub start_fault : (text : List ℕ) (fault : VFault) → BreaksAt IsStart (record { text = text; at = 0 }) fault → FaultFrom IsFormedText (record { text = text; at = 0 }) fault
start_fault text (faults.Form at) misses = item_breaks IsFormedText text 0 at (start_misses text at misses)
start_fault text faults.NoMemory misses = tt

pub start_on_text : (text : List ℕ) (at : ℕ) (name x : List ℕ) → IsNameOrWord name → text ≡ start_text name ++ x → at ≤ length text → drop at text ≡ x
    → LeadsOn IsFormedText (LeftFirst name) (record { text = text; at = 0 }) (record { text = text; at = at })
start_on_text text at name x named is within left =
    let size : length text ≡ length (start_text name) + length x = ap length is ∙ length-append (start_text name) x in
    let rest : length text - at ≡ length x = sym (length-drop at text) ∙ ap length left in
    record {
      word = start_text name;
      passed = passed_at text 0 at (start_text name) (omega arith) (is ∙ ap (λ (b : List ℕ). start_text name ++ b) (sym left)) (omega (arith, size, rest, within));
      leads = start_leads name named;
    }

-- the module's name, behind the first word
pub name_behind : (text name x : List ℕ) → text ≡ start_text name ++ x → (11 ≤ length text) × (drop 11 text ≡ name ++ (40 ∷ (codes "clk, rst" ++ x)))
name_behind text name x is =
    let whole : text ≡ codes "module gos_" ++ (name ++ (40 ∷ (codes "clk, rst" ++ x))) = is ∙ sym (start_is name x) in
    (omega (arith, ap length whole, length-append (codes "module gos_") (name ++ (40 ∷ (codes "clk, rst" ++ x)))), ap (drop 11) whole ∙ drop-append_seam (codes "module gos_") (name ++ (40 ∷ (codes "clk, rst" ++ x))))
