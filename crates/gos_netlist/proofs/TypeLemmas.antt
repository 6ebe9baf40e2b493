-- The type of a port, and its nets behind it.
use Rattle.std.proofs.Common.{◌≡◌, ℕ, List, [], ◌++◌, get_or, refl, sym, ◌∙◌, ap, subst, arith, append_assoc}
use Rattle.std.specs.Prelude.{codes}
use Rattle.std.specs.Fmt.{decimal}
use Rattle.std.proofs.lemmas.List.{append_cancel_left}
use Rattle.gos_types.specs.declared.widths.TheConstants.{GREATEST_WIDTH}
use Rattle.gos_types.specs.Types.{Type', Com, Exp, Var, Pair, Fun}
use Rattle.gos_types.specs.TypeText.{type_text}
use Rattle.gos_lex.specs.Items.{TextAt, Misses}
use Rattle.gos_netlist.specs.declared.word.TypeWord.{TypeWord}
use Rattle.gos_netlist.specs.declared.word.TypeWord.TheVariants as types
use Rattle.gos_netlist.specs.Writable.{IsPortType}
use Rattle.gos_netlist.specs.Events.{net_count}
use Rattle.gos_lex.specs.ItemTexts.{IsNumberText, Passed, ended}
use Rattle.gos_netlist.specs.inner.NetLines.{numbers_text, AreNets, IsNetsText, type_word, tail_text, IsTypeWordText, IsTypeText, IsTailText}
use Rattle.gos_lex.proofs.SequenceLemmas.{Then, IsCode, misses_as, then_first, then_rest}
use Rattle.gos_lex.proofs.PassedLemmas.{passed_both}
use Rattle.gos_lex.proofs.NumberTextLemmas.{number_code}
use Rattle.gos_netlist.proofs.NetsLemmas.{zeros, nets_code}
use Rattle.gos_netlist.proofs.WordLemmas.{type_code}

-- what stands behind the word of a type
abbrev TypeRest : TypeWord → List ℕ → Type 0
TypeRest types.Com bytes = bytes ≡ []
TypeRest types.Exp bytes = IsNumberText 1 GREATEST_WIDTH 32 bytes
TypeRest types.Var bytes = IsNumberText 1 GREATEST_WIDTH 32 bytes

abbrev TypeParts : List ℕ → Type 0
TypeParts = Then TypeWord (λ _. Unit {0}) (λ word. ended 32 (type_word word)) TypeRest

joined : (bytes : List ℕ) → TypeParts bytes → IsTypeText bytes
joined bytes (types.Com, rest, is, nothing, whole) = (Com, tt, whole ∙ ap (λ more. codes "com " ++ more) nothing)
joined bytes (types.Exp, rest, is, (w, range, number), whole) = (Exp w, range, whole ∙ ap (λ more. codes "exp " ++ more) number)
joined bytes (types.Var, rest, is, (w, range, number), whole) = (Var w, range, whole ∙ ap (λ more. codes "var " ++ more) number)

cut : (bytes : List ℕ) → IsTypeText bytes → TypeParts bytes
cut bytes (Com, is, whole) = (types.Com, [], tt, refl, whole)
cut bytes (Exp w, is, whole) = (types.Exp, ended 32 (decimal w), tt, (w, is, refl), whole)
cut bytes (Var w, is, whole) = (types.Var, ended 32 (decimal w), tt, (w, is, refl), whole)
cut bytes (Pair a b, is, whole) = absurd is
cut bytes (Fun a b, is, whole) = absurd is

some_rest : (word : TypeWord) → Unit {0} → (rest : List ℕ) × TypeRest word rest
some_rest types.Com is = ([], refl)
some_rest types.Exp is = (ended 32 (decimal 1), (1, (omega arith, omega arith), refl))
some_rest types.Var is = (ended 32 (decimal 1), (1, (omega arith, omega arith), refl))

-- the word of the type breaks off
pub no_type_word : (text : List ℕ) (at place : ℕ) → Misses IsTypeWordText text at place → Misses IsTypeText text at place
no_type_word text at place misses =
    misses_as TypeParts IsTypeText text at place joined cut (then_first TypeWord (λ _. Unit {0}) (λ word. ended 32 (type_word word)) TypeRest text at place some_rest misses)

-- its width does
no_rest : (old mid : TextAt) (word : TypeWord) (place : ℕ) → Passed old mid (ended 32 (type_word word)) → Misses (TypeRest word) mid.text mid.at place → Misses IsTypeText old.text old.at place
no_rest old mid word place passed misses =
    misses_as TypeParts IsTypeText old.text old.at place joined cut
    (then_rest TypeWord (λ _. Unit {0}) (λ word. ended 32 (type_word word)) TypeRest old.text old.at mid.at place word type_code tt passed.after passed.within passed.is
    (subst (λ (text : List ℕ). Misses (TypeRest word) text mid.at place) passed.text misses))

pub no_exp_width : (old mid : TextAt) (place : ℕ) → Passed old mid (ended 32 (codes "exp")) → Misses (IsNumberText 1 GREATEST_WIDTH 32) mid.text mid.at place → Misses IsTypeText old.text old.at place
no_exp_width old mid place passed misses = no_rest old mid types.Exp place passed misses

pub no_var_width : (old mid : TextAt) (place : ℕ) → Passed old mid (ended 32 (codes "var")) → Misses (IsNumberText 1 GREATEST_WIDTH 32) mid.text mid.at place → Misses IsTypeText old.text old.at place
no_var_width old mid place passed misses = no_rest old mid types.Var place passed misses

-- the word and the width, passed one behind the other
pub exp_passed : (old mid new : TextAt) (w : ℕ) → Passed old mid (ended 32 (codes "exp")) → Passed mid new (ended 32 (decimal w)) → Passed old new (ended 32 (type_text (Exp w)))
exp_passed old mid new w first second = passed_both old mid new (ended 32 (codes "exp")) (ended 32 (decimal w)) first second

pub var_passed : (old mid new : TextAt) (w : ℕ) → Passed old mid (ended 32 (codes "var")) → Passed mid new (ended 32 (decimal w)) → Passed old new (ended 32 (type_text (Var w)))
var_passed old mid new w first second = passed_both old mid new (ended 32 (codes "var")) (ended 32 (decimal w)) first second

-- types of ports don't begin one another
pub port_type_code : IsCode Type' IsPortType (λ t. ended 32 (type_text t))
port_type_code Com Com x y is_t is_u same = (refl, append_cancel_left (codes "com ") x y same)
port_type_code (Exp v) (Exp w) x y is_t is_u same =
    let rest = append_cancel_left (codes "exp ") (ended 32 (decimal v) ++ x) (ended 32 (decimal w) ++ y) same in
    let width = number_code 1 GREATEST_WIDTH 32 (omega arith) refl v w x y is_t is_u rest in
    (ap (λ (n : ℕ). Exp n) width.0, width.1)
port_type_code (Var v) (Var w) x y is_t is_u same =
    let rest = append_cancel_left (codes "var ") (ended 32 (decimal v) ++ x) (ended 32 (decimal w) ++ y) same in
    let width = number_code 1 GREATEST_WIDTH 32 (omega arith) refl v w x y is_t is_u rest in
    (ap (λ (n : ℕ). Var n) width.0, width.1)
port_type_code Com (Exp w) x y is_t is_u same = let first : 99 ≡ 101 = ap (λ (bytes : List ℕ). get_or bytes 0 0) same in absurd (omega (arith, first))
port_type_code Com (Var w) x y is_t is_u same = let first : 99 ≡ 118 = ap (λ (bytes : List ℕ). get_or bytes 0 0) same in absurd (omega (arith, first))
port_type_code (Exp v) Com x y is_t is_u same = let first : 101 ≡ 99 = ap (λ (bytes : List ℕ). get_or bytes 0 0) same in absurd (omega (arith, first))
port_type_code (Exp v) (Var w) x y is_t is_u same = let first : 101 ≡ 118 = ap (λ (bytes : List ℕ). get_or bytes 0 0) same in absurd (omega (arith, first))
port_type_code (Var v) Com x y is_t is_u same = let first : 118 ≡ 99 = ap (λ (bytes : List ℕ). get_or bytes 0 0) same in absurd (omega (arith, first))
port_type_code (Var v) (Exp w) x y is_t is_u same = let first : 118 ≡ 101 = ap (λ (bytes : List ℕ). get_or bytes 0 0) same in absurd (omega (arith, first))
port_type_code (Pair a b) u x y is_t is_u same = absurd is_t
port_type_code (Fun a b) u x y is_t is_u same = absurd is_t
port_type_code Com (Pair a b) x y is_t is_u same = absurd is_u
port_type_code (Exp v) (Pair a b) x y is_t is_u same = absurd is_u
port_type_code (Var v) (Pair a b) x y is_t is_u same = absurd is_u
port_type_code Com (Fun a b) x y is_t is_u same = absurd is_u
port_type_code (Exp v) (Fun a b) x y is_t is_u same = absurd is_u
port_type_code (Var v) (Fun a b) x y is_t is_u same = absurd is_u

-- a type and its nets
abbrev TailParts : List ℕ → Type 0
TailParts = Then Type' IsPortType (λ t. ended 32 (type_text t)) (λ t. IsNetsText (net_count t))

tail_joined : (bytes : List ℕ) → TailParts bytes → IsTailText bytes
tail_joined bytes (t, rest, is, (ns, are, nets), whole) = ((t, ns), (is, are), whole ∙ ap (λ more. ended 32 (type_text t) ++ more) nets)

tail_cut : (bytes : List ℕ) → IsTailText bytes → TailParts bytes
tail_cut bytes ((t, ns), (is, are), whole) = (t, numbers_text ns, is, (ns, are, refl), whole)

-- the type breaks off
pub no_type_here : (text : List ℕ) (at place : ℕ) → Misses IsTypeText text at place → Misses IsTailText text at place
no_type_here text at place misses =
    misses_as TailParts IsTailText text at place tail_joined tail_cut
    (then_first Type' IsPortType (λ t. ended 32 (type_text t)) (λ t. IsNetsText (net_count t)) text at place (λ t is. zeros (net_count t)) misses)

-- the nets do
pub no_nets_here : (old mid : TextAt) (t : Type') (place : ℕ) → IsPortType t → Passed old mid (ended 32 (type_text t)) → Misses (IsNetsText (net_count t)) mid.text mid.at place → Misses IsTailText old.text old.at place
no_nets_here old mid t place is passed misses =
    misses_as TailParts IsTailText old.text old.at place tail_joined tail_cut
    (then_rest Type' IsPortType (λ t. ended 32 (type_text t)) (λ t. IsNetsText (net_count t)) old.text old.at mid.at place t port_type_code is passed.after passed.within passed.is
    (subst (λ (text : List ℕ). Misses (IsNetsText (net_count t)) text mid.at place) passed.text misses))

-- types with their nets don't begin one another
pub tail_code : (t u : Type') (ns ms x y : List ℕ) → IsPortType t → IsPortType u → AreNets (net_count t) ns → AreNets (net_count u) ms → tail_text t ns ++ x ≡ tail_text u ms ++ y
    → (t ≡ u) × (ns ≡ ms) × (x ≡ y)
tail_code t u ns ms x y is_t is_u are_n are_m same =
    let first = port_type_code t u (numbers_text ns ++ x) (numbers_text ms ++ y) is_t is_u
    (sym (append_assoc (ended 32 (type_text t)) (numbers_text ns) x) ∙ (same ∙ append_assoc (ended 32 (type_text u)) (numbers_text ms) y)) in
    let nets = nets_code (net_count t) ns ms x y are_n (subst (λ (v : Type'). AreNets (net_count v) ms) (sym first.0) are_m) first.1 in
    (first.0, nets.0, nets.1)
