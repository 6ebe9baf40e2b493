-- Realising at each type: what is joined to plans with a wide Share and with a narrow one stands so.
use Rattle.std.specs.Prelude.{◌≡◌, ℕ, Bool, true, false, List, [], ◌∷◌, Some, All, slice_get, nat_eq}
use Rattle.std.proofs.Common.{refl, sym, ◌∙◌, ap, subst, arith}
use Rattle.std.proofs.lemmas.List.Elements.{All-contains, All-from_recursion}
use Rattle.gos_types.specs.Types.{Type', Com, Exp, Var, Pair, Fun}
use Rattle.gos_model.specs.Terms.{Term, Lit, App, Fst, Snd, Assign, Deref}
use Rattle.gos_model.specs.Typing.{Imported, Typed}
use Rattle.gos_plan.specs.Kinds as kinds
use Rattle.gos_plan.specs.Kinds.{Part, Share}
use Rattle.gos_plan.specs.Plans.{PartEnd, ResultEnd, Plan}
use Rattle.gos_plan.specs.TokenBits.{LiteralFits}
use Rattle.gos_plan.specs.Joining.{Link}
use Rattle.gos_realises.specs.realises.Regular.{count}
use Rattle.gos_realises.specs.realises.Links.{IsJoined}
use Rattle.gos_realises.specs.realises.Wirings.{lone, link, results_linked}
use Rattle.gos_realises.specs.realises.Realises.{AllPorts, NamesDiffer, HaveOtherNames, Suits, Means}
use Rattle.gos_realises.proofs.joined.WholeLemmas.{applied_is_joined, sides_are_joined, variables_are_joined}
use Rattle.gos_realises.proofs.realises.LiteralLemmas.{each_fits}
use Rattle.gos_sharing.specs.function_types.Joined.{wiring}
use Rattle.gos_sharing.proofs.function_types.BeforeLemmas.{AllResults, results_are_ports}
use Rattle.gos_sharing.proofs.function_types.MeansLemmas.{part_there, no_links, results, read_link, write_links}
use Rattle.gos_sharing.specs.parts_of_types.Narrow.{Narrowing, IsNarrow}
use Rattle.gos_sharing.specs.parts_of_types.Realised.{NarrowIsRealised}
use Rattle.gos_sharing.proofs.parts_of_types.MovedLemmas.{not_share}
use Rattle.gos_sharing.proofs.parts_of_types.FollowLemmas.{narrow_is_regular, narrow_is_done}
use Rattle.gos_sharing.proofs.parts_of_types.JoinedLemmas.{joined_is_narrow}

module _ (f : Narrowing) (z u : Plan) (is : IsNarrow f z u) where
  literal : All LiteralFits u.parts → (k : ℕ) (y : Part) → slice_get z.parts k ≡ Some y → LiteralFits y
  literal fit k y there = by_number (nat_eq k f.share) refl
    where
      by_number : (b : Bool) → nat_eq k f.share ≡ b → LiteralFits y
      by_number true test =
          let same : k ≡ f.share = grind (arith, test) in
          let both : Some (Share f.wide) ≡ Some y = sym is.frame.wide_share ∙ (ap (slice_get z.parts) (sym same) ∙ there) in
          let one : Share f.wide ≡ y = cc both in subst LiteralFits one tt
      by_number false test = All-contains LiteralFits u.parts y fit (part_there u.parts k y (sym (is.frame.others k (not_share f z u is.frame k test)) ∙ there))

  pub suits_back : (t : Type') (m : Term) → Suits t u m → Suits t z m
  suits_back t m suits =
      record {
        right = is.right;
        literals = All-from_recursion LiteralFits z.parts (each_fits z.parts (literal suits.literals));
        outcome = sym is.frame.outcome ∙ suits.outcome;
        all_ports = subst AllPorts is.frame.imports suits.all_ports;
        names = subst NamesDiffer is.frame.imports suits.names;
        typed = subst (λ (js : List Imported). Typed js [] m t) is.frame.imports suits.typed;
        regular = narrow_is_regular f z u is suits.regular;
      }

  joined_so : (ps : List Plan) (ls : List Link) (giver skipped : ℕ) (ty : Type') → AllResults ls → (r s : Plan) → IsJoined (wiring z ps ls giver skipped ty) r
      → IsJoined (wiring u ps ls giver skipped ty) s → IsNarrow f r s
  joined_so ps ls giver skipped ty kept r s of_z of_u = joined_is_narrow f z u is ps ls giver skipped ty (results_are_ports ls kept) r s of_z.joining of_u.joining

means_back : (t : Type') (f : Narrowing) (z u : Plan) (m : Term) → IsNarrow f z u → Suits t u m → Means t u m → Means t z m
means_back Com f z u m is suits means = narrow_is_done f z u m is means
means_back (Exp w) f z u m is suits means = narrow_is_done f z u m is means
means_back (Var w) f z u m is suits (reads, writes) = (
  λ r joined.
      (let (s, joined_s) = (variables_are_joined w 0 u suits.right suits.outcome).0 in
      let now = joined_so f z u is (lone (kinds.Deref w) 1 (Exp w) ∷ []) (link 0 (ResultEnd 0) 1 (PartEnd 0 0) ∷ []) 1 0 (Exp w) read_link r s joined joined_s in
      let (also, done) = reads s joined_s in
      (suits_back f r s now (Exp w) (Deref m) also, narrow_is_done f r s (Deref m) now done)),
  λ r k small joined.
      (let (s, joined_s) = (variables_are_joined w k u suits.right suits.outcome).1 in
      let now = joined_so f z u is (lone (kinds.Assign w) 2 Com ∷ lone (kinds.Lit w k) 0 (Exp w) ∷ []) (link 0 (ResultEnd 1) 1 (PartEnd 0 1) ∷ link 1 (PartEnd 0 0) 2 (ResultEnd 0) ∷ []) 1 0 Com write_links r s joined joined_s in
      let (also, done) = writes s k small joined_s in
      (suits_back f r s now Com (Assign m (Lit k w)) also, narrow_is_done f r s (Assign m (Lit k w)) now done)),
)
means_back (Pair a b) f z u m is suits (first, second) = (
  λ r joined.
      (let (s, joined_s) = (sides_are_joined a b u suits.right suits.outcome).0 in
      let now = joined_so f z u is [] [] 0 0 a no_links r s joined joined_s in
      let (also, meant) = first s joined_s in
      (suits_back f r s now a (Fst m) also, means_back a f r s (Fst m) now also meant)),
  λ r joined.
      (let (s, joined_s) = (sides_are_joined a b u suits.right suits.outcome).1 in
      let now = joined_so f z u is [] [] 0 (count a) b no_links r s joined joined_s in
      let (also, meant) = second s joined_s in
      (suits_back f r s now b (Snd m) also, means_back b f r s (Snd m) now also meant)),
)
means_back (Fun a b) f z u m is suits means = λ q r n names of_q meant_q joined.
    let (s, joined_s) = applied_is_joined a b u q suits.right of_q.right suits.outcome of_q.outcome in
    let now = joined_so f z u is (q ∷ []) (results_linked 1 0 (count a)) 0 (count a) b (results 0 (count a)) r s joined joined_s in
    let apart = subst (λ (js : List Imported). HaveOtherNames js q.imports) (sym is.frame.imports) names in
    let (also, meant) = means q s n apart of_q meant_q joined_s in
    (suits_back f r s now b (App m n) also, means_back b f r s (App m n) now also meant)

pub narrow_is_realised : NarrowIsRealised
narrow_is_realised f z u t m is realised =
    record { suits = suits_back f z u is t m realised.suits; means = means_back t f z u m is realised.suits realised.means }
