-- What a walk over a term has made so far, and what each step adds. What it is in the end say `wired_parts` and
-- `wired_ties` (WalkLemmas).
--
-- Read first: Wiring. Between the functions of this crate.
use Rattle.std.specs.Prelude.{ℕ, suc, Bool, true, not, nat_eq, List, [], ◌∷◌, ◌++◌, length, map}
use Rattle.std.specs.List.{list_all}
use Rattle.gos_types.specs.declared.types.Ty.{Ty}
use Rattle.gos_types.specs.Types.{Type', type_of}
use Rattle.gos_check.specs.declared.forms.OnePart.{OnePart}
use Rattle.gos_check.specs.declared.forms.TwoParts.{TwoParts}
use Rattle.gos_check.specs.declared.linear.Split.{Split}
use Rattle.gos_check.specs.declared.linear.Node.{Node}
use Rattle.gos_check.specs.Nodes.{node_seen, Numbered, Closed, Use, Under, One, Two, If, Binding, OneForm, TwoForm, one_form, two_form}
use Rattle.gos_plan.specs.Kinds as kinds
use Rattle.gos_plan.specs.Kinds.{Part}
use Rattle.gos_plan.specs.declared.kinds.Kind.{Kind}
use Rattle.gos_plan.specs.declared.kinds.Kind.TheVariants as declared_kinds
use Rattle.gos_plan.specs.Seen.{part_of}
use Rattle.gos_ties.specs.declared.points.Place.TheVariants as places
use Rattle.gos_ties.specs.declared.points.Point.{Point}
use Rattle.gos_ties.specs.declared.points.Tie.{Tie}
use Rattle.gos_compile.specs.declared.wires.Wires.{Wires}
use Rattle.gos_realises.specs.realises.Regular.{count}
use Rattle.gos_compile.specs.inner.Tables.{types_at}
use Rattle.gos_ties.specs.Ties.{point}
use Rattle.gos_compile.specs.Wiring.{Types, led, share_ties, type_of_node, answer_bits, closed_part, binder_part, one_part, two_part, binder_ties, one_ties, two_ties, binder_out, one_out, first_out, second_out}

-- the parts and the ties so far, how many nodes were met, and whether each sequence and each choice of expressions has bits
pub record Wired : Type 0 where
  pub parts : List Part
  pub ties : List Tie
  pub nodes : ℕ
  pub plain : Bool

-- a sequence or a choice of expressions has bits
abbrev pub is_plain : Kind → Bool
is_plain (declared_kinds.SeqExp w) = not (nat_eq w 0)
is_plain (declared_kinds.IfExp w) = not (nat_eq w 0)
is_plain k = true

abbrev pub seen : Wires → Wired
seen w =
    record { parts = map part_of w.parts.items; ties = w.ties.items; nodes = w.nodes; plain = list_all is_plain w.parts.items }

-- the number that the next part has
abbrev pub next_part : Wired → ℕ
next_part w = length w.parts

-- after a node's own part, or none, and its ties
abbrev pub with_own : List Part → List Tie → Wired → Wired
with_own parts ties w = record { parts = w.parts ++ parts; ties = w.ties ++ ties; nodes = suc w.nodes; plain = w.plain }

-- after the own part of a form of one part, and of two, of which the second has type u
abbrev pub with_one_own : OneForm → Type' → List Point → Wired → Wired
with_one_own f t out w = with_own (one_part f t) (one_ties f (next_part w) out) w

abbrev pub with_two_own : TwoForm → Type' → Type' → List Point → Wired → Wired
with_two_own f t u out w = with_own (two_part f t u) (two_ties f (next_part w) out) w

-- after the Shares of splits
abbrev pub with_share : Types → Split → Wired → Wired
with_share types s w =
    record {
      parts = w.parts ++ kinds.Share (types s.of) ∷ [];
      ties = w.ties ++ share_ties (length w.parts) (count (types s.of)) s;
      nodes = w.nodes;
      plain = w.plain;
    }

abbrev pub with_shares : Types → List Split → Wired → Wired
with_shares types [] w = w
with_shares types (s ∷ ss) w = with_shares types ss (with_share types s w)

-- after a term whose handshakes lead to `out`
abbrev pub wired : Types → Numbered → List Point → Wired → Wired
wired types (Closed t ss c) out w =
    with_own (closed_part c) (led out (places.Part (next_part (with_shares types ss w))) 0) (with_shares types ss w)
wired types (Use t ss n) out w = with_own [] (led out (places.Number n) 0) (with_shares types ss w)
wired types (Under t ss b n m) out w =
    wired types m (binder_out b t (next_part (with_shares types ss w)) out)
    (with_own (binder_part b t) (binder_ties b t (next_part (with_shares types ss w)) n out) (with_shares types ss w))
wired types (One t ss f m) out w =
    wired types m (one_out f t (type_of_node m) (next_part (with_shares types ss w)) (with_shares types ss w).nodes out)
    (with_own (one_part f t) (one_ties f (next_part (with_shares types ss w)) out) (with_shares types ss w))
wired types (Two t ss f m n) out w =
    wired types n (second_out f (type_of_node m) (type_of_node n) (next_part (with_shares types ss w)) (with_shares types ss w).nodes out)
    (wired types m (first_out f (type_of_node m) (type_of_node n) (next_part (with_shares types ss w)) (with_shares types ss w).nodes out)
    (with_own (two_part f t (type_of_node n)) (two_ties f (next_part (with_shares types ss w)) out) (with_shares types ss w)))
wired types (If t ss m n p) out w =
    wired types p (point (places.Part (next_part (with_shares types ss w))) 2 ∷ [])
    (wired types n (point (places.Part (next_part (with_shares types ss w))) 1 ∷ [])
    (wired types m (point (places.Part (next_part (with_shares types ss w))) 0 ∷ [])
    (with_own (kinds.If (answer_bits t) ∷ []) (led out (places.Part (next_part (with_shares types ss w))) 3) (with_shares types ss w))))

-- after a binder, a form of one part, a form of two parts, and a choice, as the program has them, behind their splits
abbrev pub with_binder : List Ty → Binding → Ty → ℕ → Node → List Point → Wired → Wired
with_binder types b t n m out w =
    wired (types_at types) (node_seen m) (binder_out b (type_of t) (next_part w) out)
    (with_own (binder_part b (type_of t)) (binder_ties b (type_of t) (next_part w) n out) w)

abbrev pub with_one : List Ty → OnePart → Ty → Node → List Point → Wired → Wired
with_one types f t m out w =
    wired (types_at types) (node_seen m) (one_out (one_form f) (type_of t) (type_of_node (node_seen m)) (next_part w) w.nodes out)
    (with_one_own (one_form f) (type_of t) out w)

abbrev pub with_two : List Ty → TwoParts → Ty → Node → Node → List Point → Wired → Wired
with_two types f t m n out w =
    wired (types_at types) (node_seen n)
    (second_out (two_form f) (type_of_node (node_seen m)) (type_of_node (node_seen n)) (next_part w) w.nodes out)
    (wired (types_at types) (node_seen m)
    (first_out (two_form f) (type_of_node (node_seen m)) (type_of_node (node_seen n)) (next_part w) w.nodes out)
    (with_two_own (two_form f) (type_of t) (type_of_node (node_seen n)) out w))

abbrev pub with_choice : List Ty → Ty → Node → Node → Node → List Point → Wired → Wired
with_choice types t m n p out w =
    wired (types_at types) (node_seen p) (point (places.Part (next_part w)) 2 ∷ [])
    (wired (types_at types) (node_seen n) (point (places.Part (next_part w)) 1 ∷ [])
    (wired (types_at types) (node_seen m) (point (places.Part (next_part w)) 0 ∷ [])
    (with_own (kinds.If (answer_bits (type_of t)) ∷ []) (led out (places.Part (next_part w)) 3) w)))
