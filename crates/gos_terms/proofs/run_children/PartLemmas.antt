-- The parts of a branch are among the node's.
use Rattle.std.specs.Prelude.{◌+◌, length, slice_get}
use Rattle.std.proofs.Common.{◌≡◌, ℕ, zero, suc, List, [], ◌∷◌, ◌++◌, Option, Some, refl, sym, ◌∙◌, ap, subst, arith}
use Rattle.std.proofs.lemmas.List.{append_assoc}
use Rattle.std.proofs.lemmas.Option.{none-some}
use Rattle.gos_types.specs.Types.{Type'}
use Rattle.gos_types.proofs.ListLemmas.{found_in_front, found_behind}
use Rattle.gos_check.specs.declared.linear.Split.{Split}
use Rattle.gos_check.specs.Nodes.{Numbered, type_of_node}
use Rattle.gos_plan.specs.Kinds.{Contact, Part, contacts_of}
use Rattle.gos_plan.specs.Plans.{contacts_of_part, turned_if}
use Rattle.gos_compile.specs.Wiring.{Types, shares, parts_of}
use Rattle.gos_terms.specs.wired.Wired.{Supplies}
use Rattle.gos_terms.specs.stages.Folding.{Lead, AtOwn}
use Rattle.gos_terms.specs.stages.Folded.{Sees}
use Rattle.gos_terms.specs.stages.Regions.{HasParts}
use Rattle.gos_terms.proofs.stages.ContactLemmas.{shares_length}
use Rattle.gos_terms.specs.run_children.Forks.{Branch, branch_parts, IsFork, branch_child, BranchHasParts}

parts_two : (types : Types) (before rest : List Branch) → branch_parts types (before ++ rest) ≡ branch_parts types before ++ branch_parts types rest
parts_two types [] rest = refl
parts_two types (a ∷ before) rest =
    ap (λ (ps : List Part). parts_of types a.term ++ ps) (parts_two types before rest)
    ∙ sym (append_assoc (parts_of types a.term) (branch_parts types before) (branch_parts types rest))

module _ (types : Types) (i j : ℕ) (m : Numbered) (ss : List Split) (own : Part) (before after : List Branch) (b : Branch) (ns : List ℕ) (env : Supplies)
    (fork : IsFork types m ss own (before ++ b ∷ after)) where
  -- behind the Shares
  abbrev rest : List Part
  rest = own ∷ branch_parts types (before ++ b ∷ after)

  behind_shares : (k : ℕ) → slice_get (parts_of types m) (length ss + k) ≡ slice_get rest k
  behind_shares k =
      ap (λ (ps : List Part). slice_get ps (length ss + k)) fork.parts
      ∙ (ap (λ (n : ℕ). slice_get (shares ss types ++ rest) (n + k)) (sym (shares_length types ss)) ∙ found_behind (shares ss types) rest k)

  own_there : slice_get (parts_of types m) (length ss) ≡ Some own
  own_there = let same : length ss ≡ length ss + 0 = omega arith in ap (slice_get (parts_of types m)) same ∙ behind_shares 0

  among : (x : ℕ) (y : Part) → slice_get (parts_of types b.term) x ≡ Some y
      → slice_get (branch_parts types (before ++ b ∷ after)) (length (branch_parts types before) + x) ≡ Some y
  among x y at =
      ap (λ (ps : List Part). slice_get ps (length (branch_parts types before) + x)) (parts_two types before (b ∷ after))
      ∙ (found_behind (branch_parts types before) (parts_of types b.term ++ branch_parts types after) x
      ∙ found_in_front (parts_of types b.term) (branch_parts types after) x y at)

  its_part : (x : ℕ) (y : Part) → slice_get (parts_of types b.term) x ≡ Some y
      → slice_get (parts_of types m) (length ss + 1 + length (branch_parts types before) + x) ≡ Some y
  its_part x y at =
      let same : length ss + 1 + length (branch_parts types before) + x ≡ length ss + suc (length (branch_parts types before) + x) = omega arith in
      ap (slice_get (parts_of types m)) same ∙ (behind_shares (suc (length (branch_parts types before) + x)) ∙ among x y at)

  asked : (k : Contact) → turned_if (slice_get (contacts_of (type_of_node b.term)) 0) ≡ Some k
      → slice_get (contacts_of_part (slice_get (parts_of types m) (length ss))) (length before) ≡ Some k
  asked k at =
      subst (λ (p : Option Part). slice_get (contacts_of_part p) (length before) ≡ Some k) (sym own_there) (fork.asks before after b k refl at)

  seen : (t : Type') (h : ℕ) (l : Lead) (k : Contact) → slice_get (AtOwn (length before) ∷ []) h ≡ Some l
      → turned_if (slice_get (contacts_of (type_of_node b.term)) h) ≡ Some k → Sees (length ss) (parts_of types m) t l k
  seen t zero l k lead at = let same : AtOwn (length before) ≡ l = cc lead in subst (λ (x : Lead). Sees (length ss) (parts_of types m) t x k) same (asked k at)
  seen t (suc h) l k lead at = absurd (none-some l lead)

  parts_so : (t : Type') → HasParts (branch_child types i j ss env ns before b) (parts_of types m) t
  parts_so t =
      record {
        shares =
            λ x y at. subst (λ (ps : List Part). slice_get ps x ≡ Some y) (sym fork.parts) (found_in_front (shares ss types) rest x y at);
        child = its_part;
        asks = seen t;
      }

pub branch_has_parts : BranchHasParts
branch_has_parts types i j m ss own bs before after b ns env t fork e =
    parts_so types i j m ss own before after b ns env (subst (IsFork types m ss own) e fork) t
