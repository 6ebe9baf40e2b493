-- The ends of a region that part d asks: where they stand in the whole, and what the region sees of the rest.
use Rattle.std.specs.Prelude.{◌≡◌, ℕ, List, [], ◌∷◌, Option, Some, None, slice_get}
use Rattle.std.proofs.Common.{refl, sym, ap, subst, ◌∙◌}
use Rattle.gos_types.specs.Types.{Type', IsDone}
use Rattle.gos_types.specs.Events.{Direction}
use Rattle.gos_plan.specs.Kinds as kinds
use Rattle.gos_plan.specs.Kinds.{Contact, asks, contacts_of}
use Rattle.gos_plan.specs.Firing.{Token, Row, Slot}
use Rattle.gos_plan.specs.Plans.{End, PartEnd, ImportEnd, ResultEnd, Plan, contact_at, turned_if}
use Rattle.gos_plan.specs.Tokens.{Tokens, IsPortEnd, with_token, with_state, with_puts, end_of, shake_of, way_of, fired}
use Rattle.gos_joining.specs.webs.Cutting.{Cut, lies_at, StandsIn, cut_tokens}
use Rattle.gos_joining.proofs.webs.CutLemmas.{name_by, Owns, token_lost, state_lost}
use Rattle.gos_nodes.specs.parallel.Parallel.{IsSide}
use Rattle.gos_nodes.proofs.parallel.HungLemmas.{result_shake}

-- what lies behind an end of the whole: the region's result, or an import of both
pub data Inner (d h : ℕ) (f : Cut) (r p : Plan) (b e : End) : Type 0 where
  at_result : b ≡ PartEnd d h → e ≡ ResultEnd 0 → Inner d h f r p b e
  at_import :
      (i j k : ℕ) → b ≡ ImportEnd j k → e ≡ ImportEnd i k → StandsIn p (ImportEnd i k) → f.outer (ImportEnd i k) ≡ ImportEnd j k
      → slice_get p.imports i ≡ slice_get r.imports j → Inner d h f r p b e

module _ (d h : ℕ) (f : Cut) (r p : Plan) (side : IsSide d h f r p) where
  pub side_shake : (k : ℕ) → StandsIn p (ResultEnd k) → k ≡ 0
  side_shake = result_shake p side.cut.right (subst IsDone (sym side.outcome) tt)

  pub inner_is : (b e : End) → f.inner b ≡ Some e → Inner d h f r p b e
  inner_is b e is = by_end e (side.cut.inners b e is)
    where
      by_end : (e : End) → IsPortEnd e × StandsIn p e × (f.outer e ≡ b) → Inner d h f r p b e
      by_end (PartEnd i k) (port, stands, at) = absurd port
      by_end (ImportEnd i k) (port, stands, at) =
          let (j, leads, same) = side.imports i k stands in at_import i j k (sym at ∙ leads) refl stands leads same
      by_end (ResultEnd k) (port, stands, at) =
          let none = side_shake k stands in
          at_result (sym at ∙ (ap (λ n. f.outer (ResultEnd n)) none ∙ side.result)) (ap (λ n. ResultEnd n) none)

  pub import_inner : (j k : ℕ) (e : End) → f.inner (ImportEnd j k) ≡ Some e
      → (i : ℕ) × (e ≡ ImportEnd i k) × StandsIn p (ImportEnd i k) × (f.outer (ImportEnd i k) ≡ ImportEnd j k)
      × (slice_get p.imports i ≡ slice_get r.imports j)
  import_inner j k e is = by_inner (inner_is (ImportEnd j k) e is)
    where
      by_inner : Inner d h f r p (ImportEnd j k) e
          → (i : ℕ) × (e ≡ ImportEnd i k) × StandsIn p (ImportEnd i k) × (f.outer (ImportEnd i k) ≡ ImportEnd j k)
          × (slice_get p.imports i ≡ slice_get r.imports j)
      by_inner (at_result at same) = absurd (cc at)
      by_inner (at_import i a b at same stands leads also) =
          let import : j ≡ a = cc at in
          let shake : b ≡ k = cc at in (
            i,
            same ∙ ap (λ n. ImportEnd i n) shake,
            subst (λ n. StandsIn p (ImportEnd i n)) shake stands,
            ap (λ n. f.outer (ImportEnd i n)) (sym shake) ∙ (leads ∙ sym at),
            also ∙ ap (λ n. slice_get r.imports n) (sym import),
          )

  pub no_inner_result : (k : ℕ) → f.inner (ResultEnd k) ≡ None
  no_inner_result k = by_inner (f.inner (ResultEnd k)) refl
    where
      never : (e : End) → Inner d h f r p (ResultEnd k) e → ⊥
      never e (at_result is same) = cc is
      never e (at_import i j n is same stands leads also) = cc is

      by_inner : (o : Option End) → f.inner (ResultEnd k) ≡ o → o ≡ None
      by_inner None is = refl
      by_inner (Some e) is = absurd (never e (inner_is (ResultEnd k) e is))

  pub no_inner_part : (i k : ℕ) → (PartEnd i k ≡ PartEnd d h → ⊥) → f.inner (PartEnd i k) ≡ None
  no_inner_part i k other = by_inner (f.inner (PartEnd i k)) refl
    where
      never : (e : End) → Inner d h f r p (PartEnd i k) e → ⊥
      never e (at_result is same) = other is
      never e (at_import n j m is same stands leads also) = cc is

      by_inner : (o : Option End) → f.inner (PartEnd i k) ≡ o → o ≡ None
      by_inner None is = refl
      by_inner (Some e) is = absurd (never e (inner_is (PartEnd i k) e is))

  -- ends of the region are apart in the whole
  pub result_alone : (e : End) → Owns p e → lies_at f e ≡ PartEnd d h → e ≡ ResultEnd 0
  result_alone (PartEnd i k) (part, there) is =
      let number = (side.cut.parts i part there).1 in
      let same : f.part i ≡ d = cc is in
      let clash : None ≡ Some i = sym side.outside ∙ (ap f.number (sym same) ∙ number) in absurd (cc clash)
  result_alone (ImportEnd i k) stands is = let (j, leads, same) = side.imports i k stands in let bad : ImportEnd j k ≡ PartEnd d h = sym leads ∙ is in absurd (cc bad)
  result_alone (ResultEnd k) stands is = ap (λ n. ResultEnd n) (side_shake k stands)

  -- what no end of the region sees
  pub part_unseen : (i k : ℕ) → f.number i ≡ None → (PartEnd i k ≡ PartEnd d h → ⊥) → (way : Direction) (held : Option ℕ) (s : Tokens)
      → cut_tokens f p (with_token r (PartEnd i k) way held s) ≡ cut_tokens f p s
  part_unseen i k out other way held s =
      token_lost f r p side.cut (PartEnd i k) (ap (name_by f i k) out ∙ no_inner_part i k other) way held s

  slot_unseen : (i : ℕ) → f.number i ≡ None → (i ≡ d → ⊥) → (slot : Slot) (way : Direction) (held : Option ℕ) (s : Tokens)
      → cut_tokens f p (with_token r (end_of i slot) way held s) ≡ cut_tokens f p s
  slot_unseen i out other slot way held s = part_unseen i (shake_of slot) out (λ e. other (cc e)) way held s

  puts_unseen : (i : ℕ) → f.number i ≡ None → (i ≡ d → ⊥) → (ts : List Token) (s : Tokens) → cut_tokens f p (with_puts r i ts s) ≡ cut_tokens f p s
  puts_unseen i out other [] s = refl
  puts_unseen i out other (t ∷ ts) s =
      puts_unseen i out other ts (with_token r (end_of i t.slot) (way_of t.slot) (Some t.value) s)
      ∙ slot_unseen i out other t.slot (way_of t.slot) (Some t.value) s

  pub fired_unseen : (i : ℕ) → f.number i ≡ None → (i ≡ d → ⊥) → (row : Row) (v : ℕ) (s : Tokens) → cut_tokens f p (fired r i row v s) ≡ cut_tokens f p s
  fired_unseen i out other row v s =
      puts_unseen i out other (row.puts v) (with_state i (row.next v) (with_token r (end_of i row.takes) (way_of row.takes) None s))
      ∙ (state_lost f r p side.cut i kinds.Par out (row.next v) (with_token r (end_of i row.takes) (way_of row.takes) None s)
      ∙ slot_unseen i out other row.takes (way_of row.takes) None s)

  -- how its result is asked
  pub result_there : contact_at p (ResultEnd 0) ≡ Some (asks 0 0)
  result_there = ap (λ (t : Type'). turned_if (slice_get (contacts_of t) 0)) side.outcome
