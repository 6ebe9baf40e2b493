-- What happens to a proper configuration leads to proper ones.
use Rattle.std.specs.Prelude.{ℕ, [], ◌∷◌}
use Rattle.std.proofs.Common.{refl, sym, subst, inl, inr}
use Rattle.gos_model.specs.Terms.{Term, Skip, App, Both, Seq, Par, If, Assign, Deref, Not, Bin, Scope, Held, Put}
use Rattle.gos_model.specs.Typing.{Imports}
use Rattle.gos_model.specs.Stores.{Store}
use Rattle.gos_model.specs.Reach.{Rewrites, Unfolds}
use Rattle.gos_model.specs.Moves.{Running, Act, Computing as Silent, Showing as Shows, Acts}
use Rattle.gos_programs.specs.contexts.Scopes.{IsOpen, IsOpenInIndex}
use Rattle.gos_programs.specs.contexts.Standing.{Present, StandsIn}
use Rattle.gos_programs.proofs.contexts.PluggedLemmas.{acts_to}
use Rattle.gos_programs.proofs.contexts.ScopeLemmas.{unfoldings_keep, moves_keep_scopes}
use Rattle.gos_programs.proofs.contexts.StandingLemmas.{Standing, unfoldings_stand, acts_stand, stands}
use Rattle.gos_swaps.specs.doings.Doings.{Unfolding, Computing, Showing}
use Rattle.gos_swaps.specs.proper.Proper.{IsProper, DoingsStayProper}
use Rattle.gos_swaps.proofs.doings.HeadLemmas.{head_of}
use Rattle.gos_swaps.proofs.doings.PlaceLemmas.{acts_have_paths}
use Rattle.gos_swaps.proofs.proper.ShrinkLemmas.{unfoldings_keep_apart, acts_keep_apart}

-- each open block of a term that stands in a store has its entry
mutual
  open_present : (s : Store) (m : Term) (l : ℕ) → StandsIn s m → IsOpen l m → Present s l
  open_present s (Seq m n) l st h = open_present s m l st.0 h
  open_present s (Par m n) l st (inl h) = open_present s m l st.0 h
  open_present s (Par m n) l st (inr h) = open_present s n l st.1 h
  open_present s (If m n p) l st h = open_present s m l st.0 h
  open_present s (Bin op m n) l st h = open_present s m l st.0 h
  open_present s (Held k op n) l st h = open_present s n l st h
  open_present s (Not m) l st h = open_present s m l st h
  open_present s (Assign m n) l st h = open_present s n l st.1 h
  open_present s (Scope k m) l st (inl e) = subst (Present s) e st.0
  open_present s (Scope k m) l st (inr h) = open_present s m l st.1 h
  open_present s (Deref m) l st h = index_present s m l st h
  open_present s (Put m k) l st h = index_present s m l st h
  open_present s m l st h = absurd h

  index_present : (s : Store) (m : Term) (l : ℕ) → StandsIn s m → IsOpenInIndex l m → Present s l
  index_present s (App g a) l st (inr (place, h)) = open_present s a l st.1 h
  index_present s (App g (Both n a)) l st (inl (head, h)) = open_present s a l st.1.1 h
  index_present s (App g a) l st (inl h) = absurd h
  index_present s m l st h = absurd h

standing_of : (m : Term) (s : Store) → IsProper m s → Standing m s
standing_of m s p =
    record { in_place = p.scopes.0; scoped = p.within; differ = p.differ; there = λ l h. open_present s m l p.standing h }

stands_of : (m : Term) (s : Store) → Standing m s → StandsIn s m
stands_of m s k = stands s m [] (λ l h. absurd h) k.scoped k.in_place k.there

unfolding_proper : (s : Store) (m t : Term) → IsProper m s → Unfolds m t → IsProper t s
unfolding_proper s m t p h =
    let apart = unfoldings_keep_apart m t p.apart p.closed h in
    let k : Standing t s = unfoldings_stand s 1 m t (t, h, refl) (standing_of m s p) in
    record {
      apart = apart.0;
      closed = apart.1;
      scopes = unfoldings_keep s 1 m t (t, h, refl) p.scopes;
      within = k.scoped;
      differ = k.differ;
      standing = stands_of t s k;
    }

act_proper : (i : Imports) (a : Act) (s u : Store) (m t : Term) → IsProper m s → Acts i a s u m t → IsProper t u
act_proper i a s u m t p h =
    let apart = acts_keep_apart i a s u m t p.apart p.closed p.standing h in
    let k : Standing t u = acts_stand i a s u m t h (standing_of m s p) in
    record {
      apart = apart.0;
      closed = apart.1;
      scopes = moves_keep_scopes (record { imports = i; body = Skip }) (a ∷ []) m t s u tt p.scopes (Running t u, (0, m, refl, acts_to i a s u m t h), refl);
      within = k.scoped;
      differ = k.differ;
      standing = stands_of t u k;
    }

pub doings_stay_proper : DoingsStayProper
doings_stay_proper i path Unfolding s u m t p (h, e) =
    subst (IsProper t) (sym e) (unfolding_proper s m t p (head_of Rewrites path m t h))
doings_stay_proper i path Computing s u m t p h = act_proper i Silent s u m t p ((acts_have_paths i Silent s u m t).1 (path, h))
doings_stay_proper i path (Showing o) s u m t p h = act_proper i (Shows o) s u m t p ((acts_have_paths i (Shows o) s u m t).1 (path, h))
