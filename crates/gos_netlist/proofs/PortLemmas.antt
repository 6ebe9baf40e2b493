-- The line of a port: a side, a name, a type and its nets, each of which ends with a byte of its own.
use Rattle.std.proofs.Common.{◌≡◌, ℕ, ◌<◌, List, [], ◌∷◌, ◌++◌, length, refl, sym, ◌∙◌, ap, subst, arith, append_assoc}
use Rattle.gos_types.specs.Types.{Type', Com, Exp, Var, Pair, Fun}
use Rattle.gos_types.specs.TypeText.{type_text}
use Rattle.gos_lex.specs.Items.{TextAt, Misses}
use Rattle.gos_lex.specs.Names.{IsNameOrWord}
use Rattle.gos_netlist.specs.Nets.{Side, NetPort}
use Rattle.gos_netlist.specs.NetText.{spaced, side_word, port_text}
use Rattle.gos_netlist.specs.Writable.{IsPortType, IsWritablePort}
use Rattle.gos_netlist.specs.Events.{net_count}
use Rattle.gos_lex.specs.ItemTexts.{Passed, ended}
use Rattle.gos_netlist.specs.inner.NetLines.{numbers_text, tail_text, IsNameText, IsSideText, IsTailText, IsPortText}
use Rattle.gos_lex.proofs.SequenceLemmas.{Then, IsCode, misses_as, then_first, then_rest}
use Rattle.gos_lex.proofs.PassedLemmas.{passed_both, passed_as}
use Rattle.gos_netlist.proofs.CellLemmas.{spaced_line}
use Rattle.gos_netlist.proofs.NetsLemmas.{zeros}
use Rattle.gos_netlist.proofs.WordLemmas.{side_code}
use Rattle.gos_lex.proofs.NameTextLemmas.{name_code}
use Rattle.gos_netlist.proofs.TypeLemmas.{tail_code}

-- a port of these
abbrev port_of : Side → List ℕ → Type' → List ℕ → NetPort
port_of side name ty nets = record { name = name; side = side; ty = ty; nets = nets }

-- the line of a port by its items, where it has a net
line_parts : (side : Side) (name : List ℕ) (ty : Type') (n : ℕ) (ns : List ℕ)
    → port_text (port_of side name ty (n ∷ ns)) ≡ ended 32 (side_word side) ++ (ended 32 name ++ tail_text ty (n ∷ ns))
line_parts side name ty n ns =
    let head : List ℕ = ended 32 (side_word side) ++ name ++ 32 ∷ [] in
    let nets : spaced (n ∷ ns) ++ 10 ∷ [] ≡ 32 ∷ numbers_text (n ∷ ns) = spaced_line n ns in
    append_assoc (head ++ type_text ty) (spaced (n ∷ ns)) (10 ∷ [])
    ∙ (ap (λ more. (head ++ type_text ty) ++ more) nets
    ∙ (append_assoc head (type_text ty) (32 ∷ numbers_text (n ∷ ns))
    ∙ (ap (λ more. head ++ more) (sym (append_assoc (type_text ty) (32 ∷ []) (numbers_text (n ∷ ns))))
    ∙ (append_assoc (ended 32 (side_word side) ++ name) (32 ∷ []) (tail_text ty (n ∷ ns))
    ∙ (append_assoc (ended 32 (side_word side)) name (32 ∷ tail_text ty (n ∷ ns))
    ∙ ap (λ more. ended 32 (side_word side) ++ more) (sym (append_assoc name (32 ∷ []) (tail_text ty (n ∷ ns)))))))))

some_nets : (ty : Type') → IsPortType ty → 0 < net_count ty
some_nets Com is = omega arith
some_nets (Exp w) is = omega arith
some_nets (Var w) is = omega arith
some_nets (Pair a b) is = absurd is
some_nets (Fun a b) is = absurd is

pub port_parts : (side : Side) (name : List ℕ) (ty : Type') (nets : List ℕ) → 0 < length nets
    → port_text (port_of side name ty nets) ≡ ended 32 (side_word side) ++ (ended 32 name ++ tail_text ty nets)
port_parts side name ty [] some = absurd (omega (arith, some))
port_parts side name ty (n ∷ ns) some = line_parts side name ty n ns

has_nets : (ty : Type') (nets : List ℕ) → IsPortType ty → length nets ≡ net_count ty → 0 < length nets
has_nets ty nets is many = omega (arith, some_nets ty is, many)

-- a side, a name, and the rest
abbrev Parts : List ℕ → Type 0
Parts = Then Side (λ _. Unit {0}) (λ side. ended 32 (side_word side)) (λ side. Then (List ℕ) IsNameOrWord (ended 32) (λ name. IsTailText))

joined : (bytes : List ℕ) → Parts bytes → IsPortText bytes
joined bytes (side, rest, is_side, (name, last, is_name, ((ty, nets), (is_ty, are), tail), middle), whole) = (
  port_of side name ty nets,
  record { name = is_name; ty = is_ty; many = are.0; nets = are.1 },
  whole ∙ (ap (λ more. ended 32 (side_word side) ++ more) (middle ∙ ap (λ more. ended 32 name ++ more) tail) ∙ sym (port_parts side name ty nets (has_nets ty nets is_ty are.0))),
)

cut : (bytes : List ℕ) → IsPortText bytes → Parts bytes
cut bytes (p, is, whole) = (
  p.side,
  ended 32 p.name ++ tail_text p.ty p.nets,
  tt,
  (p.name, tail_text p.ty p.nets, is.name, ((p.ty, p.nets), (is.ty, (is.many, is.nets)), refl), refl),
  whole ∙ port_parts p.side p.name p.ty p.nets (has_nets p.ty p.nets is.ty is.many),
)

some_tail : (name : List ℕ) → IsNameOrWord name → (rest : List ℕ) × IsTailText rest
some_tail name is =
    let nets = zeros 2 in
    (tail_text Com nets.1.0, ((Com, nets.1.0), (tt, nets.1.1), refl))

-- the name `a`
one_letter : IsNameOrWord (97 ∷ [])
one_letter = record { spelled = refl; short = omega arith }

some_name : (side : Side) → Unit {0} → (rest : List ℕ) × Then (List ℕ) IsNameOrWord (ended 32) (λ name. IsTailText) rest
some_name side is =
    let tail = some_tail (97 ∷ []) one_letter in
    (ended 32 (97 ∷ []) ++ tail.0, (97 ∷ [], tail.0, one_letter, tail.1, refl))

-- the side breaks off
pub no_side_here : (text : List ℕ) (at place : ℕ) → Misses IsSideText text at place → Misses IsPortText text at place
no_side_here text at place misses =
    misses_as Parts IsPortText text at place joined cut
    (then_first Side (λ _. Unit {0}) (λ side. ended 32 (side_word side)) (λ side. Then (List ℕ) IsNameOrWord (ended 32) (λ name. IsTailText)) text at place some_name misses)

after_side : (old mid : TextAt) (side : Side) (place : ℕ) → Passed old mid (ended 32 (side_word side)) → Misses (Then (List ℕ) IsNameOrWord (ended 32) (λ name. IsTailText)) mid.text mid.at place
    → Misses IsPortText old.text old.at place
after_side old mid side place passed misses =
    misses_as Parts IsPortText old.text old.at place joined cut
    (then_rest Side (λ _. Unit {0}) (λ side. ended 32 (side_word side)) (λ side. Then (List ℕ) IsNameOrWord (ended 32) (λ name. IsTailText)) old.text old.at mid.at place side side_code tt passed.after passed.within passed.is
    (subst (λ (text : List ℕ). Misses (Then (List ℕ) IsNameOrWord (ended 32) (λ name. IsTailText)) text mid.at place) passed.text misses))

-- the name does
pub no_name_here : (old mid : TextAt) (side : Side) (place : ℕ) → Passed old mid (ended 32 (side_word side)) → Misses IsNameText mid.text mid.at place → Misses IsPortText old.text old.at place
no_name_here old mid side place passed misses =
    after_side old mid side place passed (then_first (List ℕ) IsNameOrWord (ended 32) (λ name. IsTailText) mid.text mid.at place some_tail misses)

-- what stands behind the name does
pub no_tail_here : (old mid last : TextAt) (side : Side) (name : List ℕ) (place : ℕ) → IsNameOrWord name → Passed old mid (ended 32 (side_word side)) → Passed mid last (ended 32 name)
    → Misses IsTailText last.text last.at place → Misses IsPortText old.text old.at place
no_tail_here old mid last side name place is first second misses =
    after_side old mid side place first
    (then_rest (List ℕ) IsNameOrWord (ended 32) (λ name. IsTailText) mid.text mid.at last.at place name (name_code 32 refl) is second.after second.within second.is
    (subst (λ (text : List ℕ). Misses IsTailText text last.at place) second.text misses))

-- the items of a port's line, passed one behind the other
pub port_passed : (old mid last new : TextAt) (side : Side) (name : List ℕ) (ty : Type') (nets : List ℕ) → IsPortType ty → length nets ≡ net_count ty
    → Passed old mid (ended 32 (side_word side)) → Passed mid last (ended 32 name) → Passed last new (tail_text ty nets) → Passed old new (port_text (port_of side name ty nets))
port_passed old mid last new side name ty nets is many first second third =
    passed_as old new (ended 32 (side_word side) ++ (ended 32 name ++ tail_text ty nets)) (port_text (port_of side name ty nets)) (sym (port_parts side name ty nets (has_nets ty nets is many)))
    (passed_both old mid new (ended 32 (side_word side)) (ended 32 name ++ tail_text ty nets) first (passed_both mid last new (ended 32 name) (tail_text ty nets) second third))

-- lines of ports don't begin one another
pub port_code : IsCode NetPort IsWritablePort port_text
port_code p q x y is_p is_q same =
    let one = port_parts p.side p.name p.ty p.nets (has_nets p.ty p.nets is_p.ty is_p.many) in
    let other = port_parts q.side q.name q.ty q.nets (has_nets q.ty q.nets is_q.ty is_q.many) in
    let side = side_code p.side q.side ((ended 32 p.name ++ tail_text p.ty p.nets) ++ x) ((ended 32 q.name ++ tail_text q.ty q.nets) ++ y) tt tt
    (sym (append_assoc (ended 32 (side_word p.side)) (ended 32 p.name ++ tail_text p.ty p.nets) x) ∙ (ap (λ part. part ++ x) (sym one)
    ∙ (same ∙ (ap (λ part. part ++ y) other ∙ append_assoc (ended 32 (side_word q.side)) (ended 32 q.name ++ tail_text q.ty q.nets) y)))) in
    let name = name_code 32 refl p.name q.name (tail_text p.ty p.nets ++ x) (tail_text q.ty q.nets ++ y) is_p.name is_q.name
    (sym (append_assoc (ended 32 p.name) (tail_text p.ty p.nets) x) ∙ (side.1 ∙ append_assoc (ended 32 q.name) (tail_text q.ty q.nets) y)) in
    let tail = tail_code p.ty q.ty p.nets q.nets x y is_p.ty is_q.ty (is_p.many, is_p.nets) (is_q.many, is_q.nets) name.1 in
    ((λ i. port_of (side.0 i) (name.0 i) (tail.0 i) (tail.1 i)), tail.2)
