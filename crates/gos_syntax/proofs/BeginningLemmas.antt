-- Where a parser refuses a module, the items stop being the beginning of one.
use Rattle.std.proofs.Common.{◌≡◌, ℕ, ◌+◌, ◌<◌, ◌≤◌, List, [], ◌∷◌, ◌++◌, length, take, None, refl, ◌∙◌, subst, arith, Result, Ok, Err, IsErrAnd, IfErr, sym}
use Rattle.std.proofs.lemmas.List.{length-take-le}
use Rattle.gos_syntax.specs.Items.{Item, Agree, reading_at}
use Rattle.gos_syntax.specs.ModuleTrees.{ModuleTree}
use Rattle.gos_syntax.specs.ParsedModules.{IsModule, BeginsModule, IsUnexpected}
use Rattle.gos_syntax.specs.declared.fault.Stop.{Stop}
use Rattle.gos_syntax.specs.declared.fault.Stop.TheVariants as stops
use Rattle.gos_syntax.specs.inner.Answers.{IsNoModule}
use Rattle.gos_syntax.specs.Symbols.{Symbol, Part, Module}
use Rattle.gos_syntax.specs.Spelling.{Spells, at_end, Leads, IsRead, IsRefused, Stops, IsClear, looseness}
use Rattle.gos_syntax.proofs.AgreeLemmas.{agree_less, agree_back, agree_then, some_before, take_agrees}
use Rattle.gos_syntax.proofs.SpellingLemmas.{module_spelled}
use Rattle.gos_syntax.proofs.MeaningLemmas.{module_derived}
use Rattle.gos_syntax.proofs.CompletionLemmas.{completion}

-- a module ends before the end
pub clear_module : IsClear (Part Module ∷ []) []
clear_module = ((λ items i s. ends items i s), tt)
  where
    ends : (items : List Item) (i : ℕ) → Spells items [] i → 2 < looseness (reading_at items i)
    ends items i (at_end _ none) = rw none (omega arith)

-- a module begins with fewer items too
pub begins_less : (items : List Item) (m n : ℕ) → m ≤ n → BeginsModule items n → BeginsModule items m
begins_less items m n less (other, made, agree, is) = (other, made, agree_less items other m n less agree, is)

-- a module begins with any number of its items
pub module_begins : (items : List Item) (made : ModuleTree) (n : ℕ) → IsModule items made → BeginsModule items n
module_begins items made n is = (items, made, (λ k below. refl), is)

-- the same begins a module where items are read alike
pub begins_alike : (items other : List Item) (n : ℕ) → Agree n items other → BeginsModule other n → BeginsModule items n
begins_alike items other n alike (last, made, agree, is) = (last, made, agree_then items other last n alike agree, is)

-- where symbols are wanted, the items before them begin a module
begins_there : (items : List Item) (wanted : List Symbol) (n : ℕ) → n ≤ length items → Leads items (Part Module ∷ []) 0 wanted n → BeginsModule items n
begins_there items wanted n within leads =
    let before : List Item = take n items in
    let after = completion (wanted ++ []) before in
    let other : List Item = before ++ after.0 in
    let agree : Agree n items other = take_agrees n items after.0 within in
    let s : Spells other (wanted ++ []) n =
    subst (λ (k : ℕ). Spells other (wanted ++ []) k) (length-take-le n items within) after.1 in
    let is = module_derived other (leads.back other [] agree s) in
    (other, is.0, agree, is.1)

-- a refused module is one no more with the next item
pub refused_unexpected : (items : List Item) (n : ℕ) → IsRefused items (Part Module ∷ []) 0 n → IsUnexpected items n
refused_unexpected items n refused =
    record {
      within = refused.within;
      begins = begins_there items refused.wanted n refused.within refused.leads;
      breaks =
          λ begins.
          let other : List Item = begins.0 in
          let agree : Agree (n + 1) items other = begins.2 in
          let s = refused.leads.on other [] agree clear_module (module_spelled other begins.1 begins.3) in
          refused.misses other [] agree (refused.leads.clear [] clear_module) s;
    }

-- why a parser stops at a module is why there is none
no_module : (items : List Item) (stop : Stop) → Stops items (Part Module ∷ []) 0 stop → IsNoModule items stop
no_module items stop stopped = record { unexpected = λ n e. refused_unexpected items n (stopped.refused n e) }

-- what a `?` of the function on modules passes on
pub module_refused : {T : Type 0} {stop : Stop} (items : List Item) (result : Result T Stop)
    → IsErrAnd result (λ e. e ≡ stop) → Stops items (Part Module ∷ []) 0 stop → IfErr result (IsNoModule items)
module_refused items (Ok x) is stopped = tt
module_refused items (Err e) is stopped = no_module items e (subst (λ (s : Stop). Stops items (Part Module ∷ []) 0 s) (sym is) stopped)

-- behind a module that was read the first item left is unexpected
pub left_unexpected : (items : List Item) (n : ℕ) → n < length items → IsRead items Module 0 n → IsUnexpected items n
left_unexpected items n below leads =
    record {
      within = omega (arith, below);
      begins = begins_there items [] n (omega (arith, below)) leads;
      breaks =
          λ begins.
          let agree : Agree (n + 1) items begins.0 = begins.2 in
          some_before items n below
          (agree n (omega arith) ∙ ended begins.0 n (leads.on begins.0 [] agree clear_module (module_spelled begins.0 begins.1 begins.3)));
    }
  where
    ended : (other : List Item) (n : ℕ) → Spells other [] n → reading_at other n ≡ None
    ended other n (at_end _ none) = none

pub left_stops : (items : List Item) (n : ℕ) → n < length items → IsRead items Module 0 n → IsNoModule items (stops.At n)
left_stops items n below leads = record { unexpected = λ m e. subst (λ (k : ℕ). IsUnexpected items k) (at_same n m e) (left_unexpected items n below leads) }
  where
    at_same : (n m : ℕ) → stops.At n ≡ stops.At m → n ≡ m
    at_same n m e = cc

-- Items that are unexpected among the first are so among all
pub unexpected_alike : (items other : List Item) (n : ℕ) → n ≤ length items → Agree (n + 1) items other → IsUnexpected other n → IsUnexpected items n
unexpected_alike items other n within alike unexpected =
    record {
      within = within;
      begins = begins_alike items other n (agree_less items other n (n + 1) (omega arith) alike) unexpected.begins;
      breaks = λ begins. unexpected.breaks (begins_alike other items (n + 1) (agree_back items other (n + 1) alike) begins);
    }
