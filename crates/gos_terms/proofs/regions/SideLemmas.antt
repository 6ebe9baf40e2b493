-- One side of a node of two parts that share nothing: it sits in the node, its result at a handshake of the node's own part.
use Rattle.std.specs.Prelude.{◌≡◌, ◌≢◌, ℕ, zero, suc, ◌+◌, ◌-◌, ◌<◌, ◌≤◌, ◌⊎◌, Bool, true, false, ◌&&◌, List, [], ◌∷◌, length, Option, Some, None, slice_get, nat_lt, nat_eq, Contains, if◌then◌else◌}
use Rattle.std.proofs.Common.{refl, sym, ◌∙◌, ap, subst, arith, inl, inr}
use Rattle.std.proofs.lemmas.Option.{none-some, same_Some}
use Rattle.std.proofs.lemmas.Bool.{eqb-true, le-ltb, eq-eqb}
use Rattle.gos_types.specs.Types.{Type', Com}
use Rattle.gos_check.specs.Nodes.{Numbered}
use Rattle.gos_check.specs.Linearity.{times, made, used}
use Rattle.gos_check.proofs.TimesLemmas.{some_times, listed_times}
use Rattle.gos_plan.specs.Kinds.{Part, Contact, asks, contacts_of, part_contacts}
use Rattle.gos_plan.specs.Plans.{End, PartEnd, ResultEnd, Plan, contacts_of_part, turned_if, contact_at}
use Rattle.gos_realises.specs.realises.Regular.{count}
use Rattle.gos_ties.specs.declared.points.Place.TheVariants as places
use Rattle.gos_ties.specs.declared.points.Tie as point_ties
use Rattle.gos_ties.specs.Ties.{point}
use Rattle.gos_joining.specs.webs.Webs.{Dot, Of, Number, Node, Within, Tie, tie}
use Rattle.gos_joining.proofs.unions.UnionLemmas.{of_image}
use Rattle.gos_nodes.specs.folds.Folds as folds
use Rattle.gos_compile.specs.Wiring.{Types, row, parts_of, nodes, type_of_node, ties_of}
use Rattle.gos_terms.specs.wired.Wired.{Supplies, Source, Own, Placing, source_dot, dot_of, dot_ties}
use Rattle.gos_terms.proofs.regions.SpanLemmas.{Both, HoldsInside, spans, one_tie}
use Rattle.gos_terms.proofs.regions.FrameLemmas.{Frame, is_in, kept, known, size, in_range, itself_false, out_of_range, other_part, own_part, back, Gone, its_ties_there}
use Rattle.gos_terms.proofs.regions.FoldLemmas.{follows_none}
use Rattle.gos_terms.proofs.regions.ChildLemmas.{Sitting, child_placing, child_plan, number_of, number_if, its_cut, its_web, whole_web, IsPort, IsSitting, HasPorts}

-- the child's result is asked at this handshake of the node's own part
abbrev pub result_if : Bool → Option Dot
result_if true = Some (Within 0 (Of (ResultEnd 0)))
result_if false = None

abbrev pub result_end_if : Bool → Option End
result_end_if true = Some (ResultEnd 0)
result_end_if false = None

abbrev pub side_frame : Types → ℕ → ℕ → ℕ → ℕ → Numbered → List ℕ → Frame
side_frame types i asked shift j m ms =
    record {
      types = types;
      first = i;
      shift = shift;
      node = j;
      child = m;
      numbers = ms;
      named = λ n. false;
      port = λ h. result_if (nat_eq h asked);
      out = point (places.Part i) asked ∷ [];
    }

abbrev pub side_sitting : Types → ℕ → ℕ → ℕ → ℕ → Numbered → List ℕ → ℕ → Numbered → List ℕ → Supplies → Placing → Sitting
side_sitting types i asked shift l m ms j whole ns env pl =
    record {
      frame = side_frame types i asked shift l m ms;
      asked = asked;
      port_end = λ h. result_end_if (nat_eq h asked);
      supplies = env;
      node = j;
      whole = whole;
      numbers = ns;
      outside = env;
      placing = pl;
    }

-- The side m of a node, with the other side o, which has its own part, handshakes and numbers.
pub record IsSideOf
    (types : Types) (i asked shift l : ℕ) (m : Numbered) (ms : List ℕ) (other_asked other_shift k : ℕ) (o : Numbered) (ks : List ℕ)
    (j : ℕ) (whole : Numbered) (ns : List ℕ) (run : Tie) : Type 0 where
  pub shifted : 0 < shift
  pub type : type_of_node m ≡ Com
  pub parts : (a : ℕ) (x : Part) → slice_get (parts_of types m) a ≡ Some x → slice_get (parts_of types whole) (shift + a) ≡ Some x
  pub knows : (n : ℕ) → 0 < times n (used m) → 0 < times n (made m) + times n ms
  pub other_knows : (n : ℕ) → 0 < times n (used o) → 0 < times n (made o) + times n ks
  pub once : (n : ℕ) → times n (made m) + times n (made o) + times n ns ≤ 1
  pub split : (n : ℕ) → times n ms + times n ks ≡ times n ns
  pub other_handshake : nat_eq other_asked asked ≡ false
  pub other_shifted : 0 < other_shift
  pub parts_apart : (shift + length (parts_of types m) ≤ other_shift) ⊎ (other_shift + length (parts_of types o) ≤ shift)
  pub nodes_apart : (l + nodes m ≤ k) ⊎ (k + nodes o ≤ l)
  pub ties :
      (t : Tie) → Contains (dot_ties (ties_of types (i + shift) l m (point (places.Part i) asked ∷ []))) t
      → Contains (dot_ties (ties_of types i j whole (row places.Result 0 (count (type_of_node whole))))) t
  pub all :
      (t : Tie) → Contains (dot_ties (ties_of types i j whole (row places.Result 0 (count (type_of_node whole))))) t
      → Contains (dot_ties (ties_of types (i + shift) l m (point (places.Part i) asked ∷ []))) t
      ⊎ (Contains (dot_ties (ties_of types (i + other_shift) k o (point (places.Part i) other_asked ∷ []))) t ⊎ (t ≡ run))
  pub run_one : back (side_frame types i asked shift l m ms) (Within 0 run.one) ≡ None
  pub run_other : back (side_frame types i asked shift l m ms) (Within 0 run.other) ≡ None

module _
    (types : Types) (i asked shift l : ℕ) (m : Numbered) (ms : List ℕ) (other_asked other_shift k : ℕ) (o : Numbered) (ks : List ℕ)
    (j : ℕ) (whole : Numbered) (ns : List ℕ) (run : Tie) (env : Supplies) (pl : Placing)
    (is : IsSideOf types i asked shift l m ms other_asked other_shift k o ks j whole ns run) where
  abbrev f : Frame
  f = side_frame types i asked shift l m ms

  abbrev s : Sitting
  s = side_sitting types i asked shift l m ms j whole ns env pl

  out_known : (n : ℕ) → times n (made m) + times n ms ≡ 0 → known f n ≡ false
  out_known n none = le-ltb 0 (times n (made m) + times n ms) (omega (arith, none))

  its_handshake : back f (Within 0 (Of (PartEnd i asked))) ≡ Some (Within 0 (Of (ResultEnd 0)))
  its_handshake = own_part f asked ∙ ap result_if (eq-eqb asked asked refl)

  -- the other side's ties are none of its own
  gone_inside : HoldsInside (Gone f) types (i + other_shift) k o
  gone_inside =
      record {
        parts =
            λ a h low high.
            let differ : a ≢ i = λ e. let some = is.other_shifted in omega (arith, e, some, low) in
            other_part f a h differ
            ∙ itself_false (in_range (i + shift) (size f) a) (Within 0 (Of (PartEnd a h)))
            (out_of_range (i + shift) (size f) a (part_off a low high is.parts_apart));
        nodes =
            λ a h low high.
            itself_false (in_range l (nodes m) a) (Within 0 (Node a h)) (out_of_range l (nodes m) a (node_off a low high is.nodes_apart));
        numbers = λ a h some. itself_false (known f a) (Within 0 (Number a h)) (out_known a (number_off a some));
      }
    where
      part_off : (a : ℕ) → i + other_shift ≤ a → a < i + other_shift + length (parts_of types o)
          → (shift + length (parts_of types m) ≤ other_shift) ⊎ (other_shift + length (parts_of types o) ≤ shift)
          → (a < i + shift) ⊎ (i + shift + size f ≤ a)
      part_off a low high (inl before) = inr (omega (arith, low, before))
      part_off a low high (inr behind) = inl (omega (arith, high, behind))

      node_off : (a : ℕ) → k ≤ a → a < k + nodes o → (l + nodes m ≤ k) ⊎ (k + nodes o ≤ l) → (a < l) ⊎ (l + nodes m ≤ a)
      node_off a low high (inl before) = inr (omega (arith, low, before))
      node_off a low high (inr behind) = inl (omega (arith, high, behind))

      number_off : (a : ℕ) → 0 < times a (made o) + times a (used o) → times a (made m) + times a ms ≡ 0
      number_off a some = tested (times a (used o)) refl
        where
          tested : (u : ℕ) → times a (used o) ≡ u → times a (made m) + times a ms ≡ 0
          tested zero e = let one = is.once a in let both = is.split a in omega (arith, one, both, some, e)
          tested (suc u) e =
              let more = is.other_knows a (omega (arith, e)) in let one = is.once a in let both = is.split a in omega (arith, one, both, more)

  pub is_sitting : IsSitting s
  is_sitting =
      record {
        shifted = is.shifted;
        parts = is.parts;
        knows = is.knows;
        once = λ n. (let one = is.once n in let both = is.split n in omega (arith, one, both));
        shared = λ n has unnamed. (among n has, refl);
        names = λ n has named. absurd (false_true named);
        apart = λ n has out. out_known n (unused n has out);
        one = ap count is.type;
        result = (its_handshake, tt);
        ties = is.ties;
        others = λ t has. by_side t (is.all t has);
      }
    where
      false_true : false ≡ true → ⊥
      false_true e = cc e

      among : (n : ℕ) → Contains ms n → Contains ns n
      among n has = let many = some_times n ms has in let both = is.split n in listed_times n ns (omega (arith, many, both))

      out_of : (b : Bool) → b && true ≡ false → b ≡ false
      out_of true e = e
      out_of false e = refl

      unused : (n : ℕ) → Contains ns n → kept f n ≡ false → times n (made m) + times n ms ≡ 0
      unused n has out =
          let off : nat_lt 0 (times n ms) ≡ false = out_of (is_in n ms) out in
          let none : times n ms ≤ 0 = grind (arith, off) in
          let many = some_times n ns has in
          let one = is.once n in omega (arith, none, many, one)

      Off : Tie → Type 0
      Off t = (back f (Within 0 t.one) ≡ None) × (back f (Within 0 t.other) ≡ None)

      follows : (t : Tie) → Off t → folds.Follows (its_web s).ties (back f (Within 0 t.one)) (back f (Within 0 t.other))
      follows t (one, other) = follows_none (its_web s).ties (back f (Within 0 t.one)) (back f (Within 0 t.other)) one other

      of_other : (t : Tie) → Contains (dot_ties (ties_of types (i + other_shift) k o (point (places.Part i) other_asked ∷ []))) t → Off t
      of_other t has =
          let (u, has_u, same) =
          of_image (λ (u : point_ties.Tie). tie (dot_of u.one) (dot_of u.other)) (ties_of types (i + other_shift) k o (point (places.Part i) other_asked ∷ [])) t has in
          let gone =
          one_tie (Both (Gone f)) (ties_of types (i + other_shift) k o (point (places.Part i) other_asked ∷ [])) u
          (spans (Gone f) types (i + other_shift) k o (point (places.Part i) other_asked ∷ []) gone_inside
          (own_part f other_asked ∙ ap result_if is.other_handshake, tt)) has_u in
          subst Off same gone

      by_side :
          (t : Tie)
          → Contains (dot_ties (ties_of types (i + shift) l m (point (places.Part i) asked ∷ []))) t
          ⊎ (Contains (dot_ties (ties_of types (i + other_shift) k o (point (places.Part i) other_asked ∷ []))) t ⊎ (t ≡ run))
          → Contains (dot_ties (its_ties_there f is.shifted is.knows)) t
          ⊎ folds.Follows (its_web s).ties (back f (Within 0 t.one)) (back f (Within 0 t.other))
      by_side t (inl own) = inl own
      by_side t (inr (inl other)) = inr (follows t (of_other t other))
      by_side t (inr (inr same)) = inr (follows t (subst Off (sym same) (is.run_one, is.run_other)))

  -- The node's own part is x, which asks there for a command.
  module _ (r : Plan) (x : Part) (own : slice_get r.parts (pl.own 0) ≡ Some x) (source : pl.source (pl.own 0) ≡ Own 0)
      (asks_there : slice_get (part_contacts x) asked ≡ Some (asks 0 0)) where
    pub own_outside : (its_cut s r).number (pl.own 0) ≡ None
    own_outside =
        (λ n. number_of f (child_placing s) (own n) (source n))
        ∙ ap (λ (b : Bool). number_if b (0 - shift)) (out_of_range shift (size f) 0 (let some = is.shifted in inl some))

    own_contact : contact_at r (PartEnd (pl.own 0) asked) ≡ Some (asks 0 0)
    own_contact = ap (λ (o : Option Part). slice_get (contacts_of_part o) asked) own ∙ asks_there

    abbrev Result : ℕ → Contact → Type 0
    Result h c = (h ≡ 0) × (asks 0 0 ≡ c)

    com_result : (h : ℕ) (c : Contact) → turned_if (slice_get (contacts_of Com) h) ≡ Some c → Result h c
    com_result zero c e = (refl, same_Some (asks 0 0) c e)
    com_result (suc h) c e = absurd (none-some c e)

    result_is : (h : ℕ) (c : Contact) → contact_at (child_plan s) (ResultEnd h) ≡ Some c → Result h c
    result_is h c e = com_result h c (subst (λ (t : Type'). turned_if (slice_get (contacts_of t) h) ≡ Some c) is.type e)

    own_dot : (whole_web s).at (PartEnd (pl.own 0) asked) ≡ Within 0 (Of (PartEnd i asked))
    own_dot =
        let same : i + 0 ≡ i = omega arith in
        ap (λ (a : Source). source_dot i a asked) source ∙ ap (λ (n : ℕ). Within 0 (Of (PartEnd n asked))) same

    result_port : IsPort s r (ResultEnd 0) (asks 0 0)
    result_port =
        record {
          outside = own_outside;
          inner =
              ap (λ (b : Bool). if b then result_end_if (nat_eq asked asked) else None) (eq-eqb (pl.own 0) (pl.own 0) refl)
              ∙ ap result_end_if (eq-eqb asked asked refl);
          contact = own_contact;
          folded = (sym own_dot, ap (back f) own_dot ∙ its_handshake);
        }

    asked_is : (b : Bool) (y : Dot) → result_if b ≡ Some y → b ≡ true
    asked_is true y e = refl
    asked_is false y e = absurd (none-some y e)

    pub has_ports : HasPorts s r
    has_ports =
        record {
          results =
              λ h c e.
              let (none, same) = result_is h c e in
              subst (λ (n : ℕ). IsPort s r (ResultEnd n) c) (sym none) (subst (λ (d : Contact). IsPort s r (ResultEnd 0) d) same result_port);
          variables = λ a h c named e. absurd (cc named);
          ways = λ n t has named has_t. absurd (cc named);
          own =
              λ h c y stands con.
              let same : h ≡ asked = eqb-true h asked (asked_is (nat_eq h asked) y stands) in
              let one : asks 0 0 ≡ c = same_Some (asks 0 0) c (sym own_contact ∙ (ap (λ (n : ℕ). contact_at r (PartEnd (pl.own 0) n)) (sym same) ∙ con)) in (
                ResultEnd 0,
                tt,
                ap (λ (n : ℕ). PartEnd (pl.own 0) n) (sym same),
                ap (λ (t : Type'). turned_if (slice_get (contacts_of t) 0)) is.type ∙ ap Some one,
              );
        }
