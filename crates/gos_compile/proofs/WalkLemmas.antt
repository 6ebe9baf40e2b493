-- A walk over a term adds the parts and the ties that Wiring says, and no more.
use Rattle.std.specs.Prelude.{◌≡◌, Bool, true, ◌&&◌, IsTrue, suc, ◌+◌, List, [], ◌∷◌, ◌++◌, length}
use Rattle.std.specs.List.{list_all}
use Rattle.std.proofs.Common.{refl, ap, sym, ◌∙◌, append_assoc, arith, length-append}
use Rattle.gos_check.specs.declared.linear.Split.{Split}
use Rattle.gos_check.specs.Nodes.{Numbered, Closed, Use, Under, One, Two, If}
use Rattle.gos_plan.specs.declared.kinds.Kind.{Kind}
use Rattle.gos_plan.specs.Kinds as kinds
use Rattle.gos_plan.specs.Kinds.{Part}
use Rattle.gos_ties.specs.declared.points.Point.{Point}
use Rattle.gos_ties.specs.declared.points.Tie.{Tie}
use Rattle.gos_model.specs.Typing.{Imports}
use Rattle.gos_ties.specs.declared.points.Place.TheVariants as places
use Rattle.gos_compile.specs.Wiring.{Types, row, type_of_node, import_ties, all_types, all_parts, all_ties, shares, shares_ties, share_ties, parts_of, ties_of, nodes}
use Rattle.gos_realises.specs.realises.Regular.{count}
use Rattle.gos_compile.specs.inner.Walked.{Wired, is_plain, with_share, with_shares, wired}

after_none : (w : List Part) → w ++ [] ≡ w
after_none [] = refl
after_none (k ∷ w) = ap (λ (v : List Part). k ∷ v) (after_none w)

no_ties : (w : List Tie) → w ++ [] ≡ w
no_ties [] = refl
no_ties (t ∷ w) = ap (λ (v : List Tie). t ∷ v) (no_ties w)

shares_parts : (types : Types) (ss : List Split) (w : Wired) → (with_shares types ss w).parts ≡ w.parts ++ shares ss types
shares_parts types [] w = sym (after_none w.parts)
shares_parts types (s ∷ ss) w = shares_parts types ss (with_share types s w) ∙ append_assoc w.parts (kinds.Share (types s.of) ∷ []) (shares ss types)

shares_nodes : (types : Types) (ss : List Split) (w : Wired) → (with_shares types ss w).nodes ≡ w.nodes
shares_nodes types [] w = refl
shares_nodes types (s ∷ ss) w = shares_nodes types ss (with_share types s w)

shares_length : (types : Types) (ss : List Split) (w : Wired) → length (with_shares types ss w).parts ≡ length w.parts + length ss
shares_length types [] w = omega arith
shares_length types (s ∷ ss) w =
    let rest : length (with_shares types ss (with_share types s w)).parts ≡ length (with_share types s w).parts + length ss = shares_length types ss (with_share types s w) in
    let one : length (w.parts ++ kinds.Share (types s.of) ∷ []) ≡ length w.parts + 1 = length-append w.parts (kinds.Share (types s.of) ∷ []) in
    omega (arith, rest, one)

shares_tied : (types : Types) (ss : List Split) (w : Wired) → (with_shares types ss w).ties ≡ w.ties ++ shares_ties (length w.parts) ss types
shares_tied types [] w = sym (no_ties w.ties)
shares_tied types (s ∷ ss) w =
    let one : length (w.parts ++ kinds.Share (types s.of) ∷ []) ≡ length w.parts + 1 = length-append w.parts (kinds.Share (types s.of) ∷ []) in
    let next : length (w.parts ++ kinds.Share (types s.of) ∷ []) ≡ suc (length w.parts) = omega (arith, one) in
    shares_tied types ss (with_share types s w)
    ∙ (rw next (append_assoc w.ties (share_ties (length w.parts) (count (types s.of)) s) (shares_ties (suc (length w.parts)) ss types)))

pub wired_parts : (types : Types) (m : Numbered) (out : List Point) (w : Wired) → (wired types m out w).parts ≡ w.parts ++ parts_of types m
wired_parts types (Closed t ss c) out w = rw (shares_parts types ss w) (simp append_assoc refl)
wired_parts types (Use t ss n) out w = rw (after_none (with_shares types ss w).parts) (shares_parts types ss w)
wired_parts types (Under t ss b n m) out w = rw (wired_parts types m _ _, shares_parts types ss w) (simp append_assoc refl)
wired_parts types (One t ss f m) out w = rw (wired_parts types m _ _, shares_parts types ss w) (simp append_assoc refl)
wired_parts types (Two t ss f m n) out w = rw (wired_parts types n _ _, wired_parts types m _ _, shares_parts types ss w) (simp append_assoc refl)
wired_parts types (If t ss m n p) out w =
    rw (wired_parts types p _ _, wired_parts types n _ _, wired_parts types m _ _, shares_parts types ss w) (simp append_assoc refl)

pub wired_nodes : (types : Types) (m : Numbered) (out : List Point) (w : Wired) → (wired types m out w).nodes ≡ w.nodes + nodes m
wired_nodes types (Closed t ss c) out w = rw (shares_nodes types ss w) (omega arith)
wired_nodes types (Use t ss n) out w = rw (shares_nodes types ss w) (omega arith)
wired_nodes types (Under t ss b n m) out w = rw (wired_nodes types m _ _, shares_nodes types ss w) (omega arith)
wired_nodes types (One t ss f m) out w = rw (wired_nodes types m _ _, shares_nodes types ss w) (omega arith)
wired_nodes types (Two t ss f m n) out w = rw (wired_nodes types n _ _, wired_nodes types m _ _, shares_nodes types ss w) (omega arith)
wired_nodes types (If t ss m n p) out w =
    rw (wired_nodes types p _ _, wired_nodes types n _ _, wired_nodes types m _ _, shares_nodes types ss w) (omega arith)

wired_length : (types : Types) (m : Numbered) (out : List Point) (w : Wired)
    → length (wired types m out w).parts ≡ length w.parts + length (parts_of types m)
wired_length types m out w = rw (wired_parts types m out w) (length-append w.parts (parts_of types m))

pub wired_ties : (types : Types) (m : Numbered) (out : List Point) (w : Wired)
    → (wired types m out w).ties ≡ w.ties ++ ties_of types (length w.parts) w.nodes m out
wired_ties types (Closed t ss c) out w = rw (shares_tied types ss w, shares_length types ss w) (simp append_assoc refl)
wired_ties types (Use t ss n) out w = rw (shares_tied types ss w) (simp append_assoc refl)
wired_ties types (Under t ss b n m) out w =
    rw (wired_ties types m _ _, shares_tied types ss w, length-append, shares_length types ss w, shares_nodes types ss w) (simp append_assoc refl)
wired_ties types (One t ss f m) out w =
    rw (wired_ties types m _ _, shares_tied types ss w, length-append, shares_length types ss w, shares_nodes types ss w) (simp append_assoc refl)
wired_ties types (Two t ss f m n) out w =
    rw (wired_ties types n _ _, wired_ties types m _ _, wired_length types m _ _, wired_nodes types m _ _, shares_tied types ss w, length-append, shares_length types ss w, shares_nodes types ss w)
    (simp append_assoc refl)
wired_ties types (If t ss m n p) out w =
    rw (wired_ties types p _ _, wired_ties types n _ _, wired_ties types m _ _, wired_length types n _ _, wired_length types m _ _, wired_nodes types n _ _, wired_nodes types m _ _, shares_tied types ss w, length-append, shares_length types ss w, shares_nodes types ss w)
    (simp append_assoc refl)

-- a walk over a module's term, from the imports' ties on, gives the module's parts and ties
pub module_parts : (is : Imports) (m : Numbered) (types : Types) (out : List Point) (start last : Wired) → types ≡ all_types is m → start.parts ≡ []
    → last ≡ wired types m out start → last.parts ≡ all_parts is m
module_parts is m types out start last known none end =
    ap (λ (w : Wired). w.parts) end ∙ (wired_parts types m out start ∙ rw (none, known) refl)

pub module_ties : (is : Imports) (m : Numbered) (types : Types) (out : List Point) (start last : Wired) → types ≡ all_types is m
    → out ≡ row places.Result 0 (count (type_of_node m)) → start.parts ≡ [] → start.ties ≡ import_ties 0 is → start.nodes ≡ 0
    → last ≡ wired types m out start → last.ties ≡ all_ties is m
module_ties is m types out start last known leads none imports zero end =
    ap (λ (w : Wired). w.ties) end ∙ (wired_ties types m out start ∙ rw (none, known, imports, zero, leads) refl)

-- a walk leaves it whether all is plain
shares_plain : (types : Types) (ss : List Split) (w : Wired) → (with_shares types ss w).plain ≡ w.plain
shares_plain types [] w = refl
shares_plain types (s ∷ ss) w = shares_plain types ss (with_share types s w)

wired_plain : (types : Types) (m : Numbered) (out : List Point) (w : Wired) → (wired types m out w).plain ≡ w.plain
wired_plain types (Closed t ss c) out w = shares_plain types ss w
wired_plain types (Use t ss n) out w = shares_plain types ss w
wired_plain types (Under t ss b n m) out w = rw (wired_plain types m _ _) (shares_plain types ss w)
wired_plain types (One t ss f m) out w = rw (wired_plain types m _ _) (shares_plain types ss w)
wired_plain types (Two t ss f m n) out w = rw (wired_plain types n _ _, wired_plain types m _ _) (shares_plain types ss w)
wired_plain types (If t ss m n p) out w = rw (wired_plain types p _ _, wired_plain types n _ _, wired_plain types m _ _) (shares_plain types ss w)

pub module_plain : (m : Numbered) (types : Types) (out : List Point) (start last : Wired) → start.plain ≡ true → last ≡ wired types m out start
    → last.plain ≡ true
module_plain m types out start last none end = ap (λ (w : Wired). w.plain) end ∙ (wired_plain types m out start ∙ none)

-- one part more
pub plain_more : (ks : List Kind) (k : Kind) → IsTrue (is_plain k) → list_all is_plain (ks ++ k ∷ []) ≡ list_all is_plain ks
plain_more [] k h = rw h refl
plain_more (l ∷ ks) k h = ap (λ (b : Bool). is_plain l && b) (plain_more ks k h)
