-- Calls that are made one after another.
use Rattle.std.proofs.Common.{◌≡◌, ◌≢◌, ◌∙◌, inl, inr, refl, List, [], ◌∷◌, ◌++◌, subst, sym}
use Rattle.gos_outside.specs.Calls.{StoreCall, Did, Calls, and_then, and_all, AndSome, AndRefused, Ending, Whole, Failed, Short, AreMade}

-- where none was made
pub none_made : (calls : List StoreCall) (old new : Calls) → new ≡ old → AndSome calls old new
none_made [] old new same = same
none_made (call ∷ rest) old new same = inl same

-- where all were made, some were
pub all_made : (calls : List StoreCall) (old new : Calls) → new ≡ and_all old calls → AndSome calls old new
all_made [] old new made = made
all_made (call ∷ rest) old new made = inr (all_made rest (and_then old (Did call)) new made)

-- A caller that ended before all were made ended so before more calls too.
some_of_more : (calls more : List StoreCall) (old new : Calls) → AndSome calls old new → AndSome (calls ++ more) old new
some_of_more [] more old new same = none_made more old new same
some_of_more (call ∷ rest) more old new (inl same) = inl same
some_of_more (call ∷ rest) more old new (inr made) = inr (some_of_more rest more (and_then old (Did call)) new made)

refused_of_more : (calls more : List StoreCall) (old new : Calls) → AndRefused calls old new → AndRefused (calls ++ more) old new
refused_of_more [] more old new refused = absurd refused
refused_of_more (call ∷ rest) more old new (inl refused) = inl refused
refused_of_more (call ∷ rest) more old new (inr refused) = inr (refused_of_more rest more (and_then old (Did call)) new refused)

pub ends_before : (ending : Ending) (calls more : List StoreCall) (old new : Calls) → ending ≢ Whole → AreMade ending calls old new → AreMade ending (calls ++ more) old new
ends_before Whole calls more old new short made = absurd (short refl)
ends_before Failed calls more old new short made = refused_of_more calls more old new made
ends_before Short calls more old new short made = some_of_more calls more old new made

-- one that made all its calls goes on with more
all_then : (calls more : List StoreCall) (old : Calls) → and_all (and_all old calls) more ≡ and_all old (calls ++ more)
all_then [] more old = refl
all_then (call ∷ rest) more old = all_then rest more (and_then old (Did call))

some_then : (calls more : List StoreCall) (old new : Calls) → AndSome more (and_all old calls) new → AndSome (calls ++ more) old new
some_then [] more old new made = made
some_then (call ∷ rest) more old new made = inr (some_then rest more (and_then old (Did call)) new made)

refused_then : (calls more : List StoreCall) (old new : Calls) → AndRefused more (and_all old calls) new → AndRefused (calls ++ more) old new
refused_then [] more old new refused = refused
refused_then (call ∷ rest) more old new refused = inr (refused_then rest more (and_then old (Did call)) new refused)

pub goes_on : (ending : Ending) (calls more : List StoreCall) (old between new : Calls) → between ≡ and_all old calls → AreMade ending more between new
    → AreMade ending (calls ++ more) old new
goes_on Whole calls more old between new first made = made ∙ subst (λ (x : Calls). and_all x more ≡ and_all old (calls ++ more)) (sym first) (all_then calls more old)
goes_on Failed calls more old between new first made = refused_then calls more old new (subst (λ (x : Calls). AndRefused more x new) first made)
goes_on Short calls more old between new first made = some_then calls more old new (subst (λ (x : Calls). AndSome more x new) first made)

-- one that made all its calls and ends there did so before more
pub stops_short : (calls more : List StoreCall) (old new : Calls) → new ≡ and_all old calls → AndSome (calls ++ more) old new
stops_short calls more old new made = some_of_more calls more old new (all_made calls old new made)
