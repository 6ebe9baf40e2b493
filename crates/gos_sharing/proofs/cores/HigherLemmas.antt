-- A plan realises what its core realises, at each type.
use Rattle.std.specs.Prelude.{ℕ, zero, suc, List, [], ◌∷◌, All}
use Rattle.std.proofs.Common.{◌≡◌, sym, ◌∙◌, subst, arith}
use Rattle.gos_types.specs.Types.{Type', Com, Exp, Var, Pair, Fun, IsDone}
use Rattle.gos_model.specs.Terms.{Term, Lit, App, Fst, Snd, Assign, Deref}
use Rattle.gos_plan.specs.Kinds as kinds
use Rattle.gos_plan.specs.Plans.{PartEnd, ResultEnd, Plan}
use Rattle.gos_plan.specs.Joining.{Link, all_parts}
use Rattle.gos_plan.specs.TokenBits.{LiteralFits}
use Rattle.gos_realises.specs.realises.Regular.{count}
use Rattle.gos_realises.specs.realises.Matched.{RealisesInTurn}
use Rattle.gos_realises.specs.realises.Links.{IsJoined}
use Rattle.gos_realises.specs.realises.Wirings.{lone, link, results_linked}
use Rattle.gos_realises.specs.realises.Realises.{HaveOtherNames, Suits, Means}
use Rattle.gos_realises.proofs.realises.LiteralLemmas.{no_literals, reading_literals, writing_literals, literals_append, literals_joined}
use Rattle.gos_realises.proofs.realises.PlaceLemmas.{place_of, contains_at}
use Rattle.gos_programs.proofs.contexts.WideningLemmas.{sources_known}
use Rattle.gos_realises.proofs.joined.WholeLemmas.{applied_is_joined, sides_are_joined, variables_are_joined}
use Rattle.gos_supplies.proofs.unjoined.ImportLemmas.{AllAmong, among, typed_more}
use Rattle.gos_supplies.proofs.unjoined.LeftLemmas.{all_imports}
use Rattle.gos_supplies.proofs.unjoined.HigherLemmas.{Fine, no_others, more_fine, append_none}
use Rattle.gos_sharing.specs.cores.Core.{Core, IsCore, IsStill}
use Rattle.gos_sharing.specs.cores.Cores.{CoreIsRealised}
use Rattle.gos_sharing.specs.cores.Joined.{wiring, IsOuter, AllOuter, carried}
use Rattle.gos_sharing.proofs.cores.RegularLemmas.{core_regular}
use Rattle.gos_sharing.proofs.cores.MatchedLemmas.{core_is_done}
use Rattle.gos_sharing.proofs.cores.JoinedLemmas.{new_core, large_imports}
use Rattle.gos_sharing.proofs.cores.VariableLemmas.{reading_is_still, writing_is_still}
use Rattle.gos_sharing.proofs.cores.WiringLemmas.{results_outer, none_outer, applying_is_still, sides_are_still}

zero_not : (n : ℕ) → suc n ≡ 0 → ⊥
zero_not n e = omega (arith, e)

pub reading_outer : AllOuter (link 0 (ResultEnd 0) 1 (PartEnd 0 0) ∷ [])
reading_outer l (zero, small, is) = subst (λ (k : Link). IsOuter k.one.plan k.one.end × IsOuter k.other.plan k.other.end) is (tt, zero_not 0)
reading_outer l (suc k, small, is) = absurd (omega (arith, small))

pub writing_outer : AllOuter (link 0 (ResultEnd 1) 1 (PartEnd 0 1) ∷ link 1 (PartEnd 0 0) 2 (ResultEnd 0) ∷ [])
writing_outer l (zero, small, is) = subst (λ (k : Link). IsOuter k.one.plan k.one.end × IsOuter k.other.plan k.other.end) is (tt, zero_not 0)
writing_outer l (suc zero, small, is) = subst (λ (k : Link). IsOuter k.one.plan k.one.end × IsOuter k.other.plan k.other.end) is (zero_not 0, tt)
writing_outer l (suc (suc k), small, is) = absurd (omega (arith, small))

own_imports : (f : Core) (r c : Plan) → IsCore f r c → AllAmong c.imports r.imports
own_imports f r c is i has = let (n, at) = place_of c.imports i has in contains_at r.imports (f.import n) i (is.imports n i at).0

-- what suits
module _ (f : Core) (r c : Plan) (is : IsCore f r c) (still : IsStill f r c) (literals : All LiteralFits r.parts) (fine : Fine r.imports) where
  suits_core : (t : Type') (m : Term) → Suits t c m → Suits t r m
  suits_core t m suits =
      record {
        right = is.right;
        literals = literals;
        outcome = is.outcome ∙ suits.outcome;
        all_ports = fine.0;
        names = fine.1;
        typed = typed_more c.imports r.imports (among c.imports r.imports fine.1 (own_imports f r c is)) [] m t suits.typed;
        regular = core_regular f r c is still suits.regular;
      }

  done_core : (t : Type') (m : Term) → IsDone t → Suits t c m → RealisesInTurn c m → RealisesInTurn r m
  done_core t m is_done suits done =
      core_is_done f r c m is still fine.1 (sources_known c.imports [] m t suits.typed) done

  abbrev DoneToo : Type' → Term → Type 0
  DoneToo t m = Suits t r m × RealisesInTurn r m

  done_too : (t : Type') (m : Term) → IsDone t → Suits t c m × RealisesInTurn c m → DoneToo t m
  done_too t m is_done (suits, done) = (suits_core t m suits, done_core t m is_done suits done)

-- the joinings with the plan and with its core
module _ (f : Core) (p q : Plan) (is : IsCore f p q) (ps : List Plan) (ls : List Link) (outer : AllOuter ls) (giver skipped : ℕ) (t : Type') (r s : Plan)
    (of_p : IsJoined (wiring p ps ls giver skipped t) r) (of_q : IsJoined (wiring q ps ls giver skipped t) s)
  where
    abbrev Joined : Type 0
    Joined = IsCore (carried f p q r) r s × All LiteralFits r.parts × Fine r.imports

    joined : All LiteralFits p.parts → All LiteralFits (all_parts ps) → Fine p.imports → Fine (all_imports ps) → HaveOtherNames p.imports (all_imports ps) → Joined
    joined literals others fine also apart = (
      new_core f p q is ps ls outer giver skipped t r s of_p.joining of_q.joining,
      literals_joined p ps r of_p.joining.parts literals others,
      subst Fine (sym (large_imports f p q is ps ls outer giver skipped t r s of_p.joining of_q.joining)) (more_fine p.imports (all_imports ps) fine also apart),
    )

-- by the type
means_core : (t : Type') (f : Core) (r c : Plan) (m : Term) → IsCore f r c → IsStill f r c → All LiteralFits r.parts → Fine r.imports → Suits t c m → Means t c m → Means t r m
means_core Com f r c m is still literals fine suits means = done_core f r c is still literals fine Com m tt suits means
means_core (Exp w) f r c m is still literals fine suits means = done_core f r c is still literals fine (Exp w) m tt suits means
means_core (Var w) f r c m is still literals fine suits (reads, writes) = (
  λ x of_x.
      (let (y, of_y) = (variables_are_joined w 0 c suits.right suits.outcome).0 in
      let (core, fit, fine_x) =
      joined f r c is (lone (kinds.Deref w) 1 (Exp w) ∷ []) (link 0 (ResultEnd 0) 1 (PartEnd 0 0) ∷ []) reading_outer 1 0 (Exp w) x y of_x of_y literals
      (reading_literals w) fine (tt, tt) (no_others r.imports)
      in
      let calm = reading_is_still f r c x y w is still (is.outcome ∙ suits.outcome) literals suits.regular of_x of_y in
      done_too (carried f r c x) x y core calm fit fine_x (Exp w) (Deref m) tt (reads y of_y)),
  λ x k small of_x.
      (let (y, of_y) = (variables_are_joined w k c suits.right suits.outcome).1 in
      let (core, fit, fine_x) =
      joined f r c is (lone (kinds.Assign w) 2 Com ∷ lone (kinds.Lit w k) 0 (Exp w) ∷ [])
      (link 0 (ResultEnd 1) 1 (PartEnd 0 1) ∷ link 1 (PartEnd 0 0) 2 (ResultEnd 0) ∷ []) writing_outer 1 0 Com x y of_x of_y literals
      (writing_literals w k small) fine (tt, tt) (no_others r.imports)
      in
      let calm = writing_is_still f r c x y w k small is still (is.outcome ∙ suits.outcome) literals suits.regular of_x of_y in
      done_too (carried f r c x) x y core calm fit fine_x Com (Assign m (Lit k w)) tt (writes y k small of_y)),
)
means_core (Pair a b) f r c m is still literals fine suits (first, second) = (
  λ x of_x.
      (let (y, of_y) = (sides_are_joined a b c suits.right suits.outcome).0 in
      let (core, fit, fine_x) = joined f r c is [] [] none_outer 0 0 a x y of_x of_y literals no_literals fine (tt, tt) (no_others r.imports) in
      let calm = (sides_are_still f r c x y a b is still (is.outcome ∙ suits.outcome) literals suits.regular).0 of_x of_y in
      let (also, meant) = first y of_y in
      (suits_core (carried f r c x) x y core calm fit fine_x a (Fst m) also, means_core a (carried f r c x) x y (Fst m) core calm fit fine_x also meant)),
  λ x of_x.
      (let (y, of_y) = (sides_are_joined a b c suits.right suits.outcome).1 in
      let (core, fit, fine_x) = joined f r c is [] [] none_outer 0 (count a) b x y of_x of_y literals no_literals fine (tt, tt) (no_others r.imports) in
      let calm = (sides_are_still f r c x y a b is still (is.outcome ∙ suits.outcome) literals suits.regular).1 of_x of_y in
      let (also, meant) = second y of_y in
      (suits_core (carried f r c x) x y core calm fit fine_x b (Snd m) also, means_core b (carried f r c x) x y (Snd m) core calm fit fine_x also meant)),
)
means_core (Fun a b) f r c m is still literals fine suits means = λ z x n apart of_z meant_z of_x.
    let (y, of_y) = applied_is_joined a b c z suits.right of_z.right suits.outcome of_z.outcome in
    let same : z.imports ≡ all_imports (z ∷ []) = sym (append_none z.imports) in
    let (core, fit, fine_x) =
    joined f r c is (z ∷ []) (results_linked 1 0 (count a)) (results_outer (count a)) 0 (count a) b x y of_x of_y literals
    (literals_append z.parts [] of_z.literals no_literals) fine
    (subst Fine same (of_z.all_ports, of_z.names)) (subst (HaveOtherNames r.imports) same apart)
    in
    let calm = applying_is_still f r c z x y a b is still (is.outcome ∙ suits.outcome) of_z.outcome literals of_z.literals suits.regular of_z.regular of_x of_y in
    let own : HaveOtherNames c.imports z.imports = λ i j in_c in_z. apart i j (own_imports f r c is i in_c) in_z in
    let (also, meant) = means z y n own of_z meant_z of_y in
    (suits_core (carried f r c x) x y core calm fit fine_x b (App m n) also, means_core b (carried f r c x) x y (App m n) core calm fit fine_x also meant)

pub core_realises : CoreIsRealised
core_realises f r c t m is still literals ports names realised =
    record {
      suits = suits_core f r c is still literals (ports, names) t m realised.suits;
      means = means_core t f r c m is still literals (ports, names) realised.suits realised.means;
    }
