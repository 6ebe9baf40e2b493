-- How reading leads from what is wanted at one item to what is wanted at a later one.
use Rattle.std.proofs.Common.{◌≡◌, ℕ, ◌+◌, ◌≤◌, List, [], ◌∷◌, ◌++◌, length, Option, sym, subst, arith}
use Rattle.std.proofs.lemmas.List.{append_assoc}
use Rattle.gos_lex.specs.Tokens.{Reading}
use Rattle.gos_syntax.specs.declared.fault.Stop.{Stop}
use Rattle.gos_syntax.specs.declared.fault.Stop.TheVariants as stops
use Rattle.gos_syntax.specs.Items.{Item, reading_at}
use Rattle.gos_syntax.specs.Symbols.{Class, Fits, Phrase, Symbol, Token, Part, IsRule}
use Rattle.gos_syntax.specs.Spelling.{Spells, with_token, by_rule, EndsBefore, IsClear, Leads, Misses, IsRefused, IsRead, Stops}

-- an item of the class that is wanted stands first in what is spelled
pub record BeginsWith (items : List Item) (class : Class) (rest : List Symbol) (i : ℕ) : Type 0 where
  pub fits : Fits (reading_at items i) class
  pub after : Spells items rest (i + 1)

pub token_spelled : (items : List Item) (class : Class) (rest : List Symbol) (i : ℕ) → Spells items (Token class ∷ rest) i → BeginsWith items class rest i
token_spelled items class rest i (with_token _ _ _ fits after) = record { fits = fits; after = after }

-- a phrase is spelled by one of its rules
pub record SpelledBy (items : List Item) (phrase : Phrase) (rest : List Symbol) (i : ℕ) : Type 0 where
  pub body : List Symbol
  pub rule : IsRule phrase body
  pub spelled : Spells items (body ++ rest) i

pub phrase_spelled : (items : List Item) (phrase : Phrase) (rest : List Symbol) (i : ℕ) → Spells items (Part phrase ∷ rest) i → SpelledBy items phrase rest i
phrase_spelled items phrase rest i (by_rule _ _ body _ rule spelled) = record { body = body; rule = rule; spelled = spelled }

-- phrases that end before others and what follows them
pub clear_both : (before after rest : List Symbol) → IsClear (before ++ after) rest → IsClear before (after ++ rest) × IsClear after rest
clear_both [] after rest clear = (tt, clear)
clear_both (Token class ∷ before) after rest clear = clear_both before after rest clear
clear_both (Part phrase ∷ before) after rest clear =
    let both = clear_both before after rest clear.1 in
    ((subst (λ (symbols : List Symbol). EndsBefore phrase symbols) (append_assoc before after rest) clear.0, both.0), both.1)

pub both_clear : (before after rest : List Symbol) → IsClear before (after ++ rest) → IsClear after rest → IsClear (before ++ after) rest
both_clear [] after rest clear last = last
both_clear (Token class ∷ before) after rest clear last = both_clear before after rest clear last
both_clear (Part phrase ∷ before) after rest clear last =
    (subst (λ (symbols : List Symbol). EndsBefore phrase symbols) (sym (append_assoc before after rest)) clear.0, both_clear before after rest clear.1 last)

-- reading nothing leads to what was wanted
pub leads_here : (items : List Item) (symbols : List Symbol) (i : ℕ) → Leads items symbols i symbols i
leads_here items symbols i =
    record {
      forward = omega arith;
      clear = λ rest clear. clear;
      back = λ other rest agree spelled. spelled;
      on = λ other rest agree clear spelled. spelled;
    }

-- reading on leads further
pub leads_then : {items : List Item} {first second third : List Symbol} {i j k : ℕ} → Leads items first i second j → Leads items second j third k → Leads items first i third k
leads_then {items} {first} {second} {third} {i} {j} {k} one two =
    let further : j ≤ k = two.forward in
    record {
      forward = omega (arith, one.forward, two.forward);
      clear = λ rest clear. two.clear rest (one.clear rest clear);
      back = λ other rest agree spelled. one.back other rest (λ n below. agree n (omega (arith, further, below))) (two.back other rest agree spelled);
      on =
          λ other rest agree clear spelled.
          two.on other rest agree (one.clear rest clear) (one.on other rest (λ n below. agree n (omega (arith, further, below))) clear spelled);
    }

-- an item of the class that is wanted leads past it
pub leads_token : {items : List Item} {class : Class} {symbols : List Symbol} {i : ℕ} → Fits (reading_at items i) class → Leads items (Token class ∷ symbols) i symbols (i + 1)
leads_token {items} {class} {symbols} {i} fits =
    record {
      forward = omega arith;
      clear = λ rest clear. clear;
      back =
          λ other rest agree spelled.
          with_token i class (symbols ++ rest) (subst (λ (r : Option Reading). Fits r class) (agree i (omega arith)) fits) spelled;
      on = λ other rest agree clear spelled. (token_spelled other class (symbols ++ rest) i spelled).after;
    }

pub leads_token_to : {items : List Item} {class : Class} {symbols : List Symbol} {i j : ℕ} → j ≡ i + 1 → Fits (reading_at items i) class
    → Leads items (Token class ∷ symbols) i symbols j
leads_token_to {items} {class} {symbols} {i} {j} e fits = subst (λ (n : ℕ). Leads items (Token class ∷ symbols) i symbols n) (sym e) (leads_token fits)

-- what leads somewhere does so before whatever else is wanted
pub leads_before : {items : List Item} {before after : List Symbol} {i j : ℕ} (more : List Symbol) → Leads items before i after j → Leads items (before ++ more) i (after ++ more) j
leads_before {items} {before} {after} {i} {j} more leads =
    record {
      forward = leads.forward;
      clear =
          λ rest clear.
          let both = clear_both before more rest clear in
          both_clear after more rest (leads.clear (more ++ rest) both.0) both.1;
      back =
          λ other rest agree spelled.
          subst (λ (symbols : List Symbol). Spells other symbols i) (sym (append_assoc before more rest))
          (leads.back other (more ++ rest) agree (subst (λ (symbols : List Symbol). Spells other symbols j) (append_assoc after more rest) spelled));
      on =
          λ other rest agree clear spelled.
          let both = clear_both before more rest clear in
          subst (λ (symbols : List Symbol). Spells other symbols j) (sym (append_assoc after more rest))
          (leads.on other (more ++ rest) agree both.0 (subst (λ (symbols : List Symbol). Spells other symbols i) (append_assoc before more rest) spelled));
    }

-- a phrase that was read leads to what is wanted after it
pub leads_part : {items : List Item} {phrase : Phrase} {symbols : List Symbol} {i j : ℕ} → IsRead items phrase i j → Leads items (Part phrase ∷ symbols) i symbols j
leads_part {items} {phrase} {symbols} {i} {j} read = leads_before {before = Part phrase ∷ []} {after = []} symbols read

-- an item that is not of the class that is wanted
pub misses_token : (items : List Item) (class : Class) (symbols : List Symbol) (n : ℕ) → (Fits (reading_at items n) class → ⊥) → Misses items (Token class ∷ symbols) n
misses_token items class symbols n unfit other rest agree clear spelled =
    unfit (subst (λ (r : Option Reading). Fits r class) (sym (agree n (omega arith))) (token_spelled other class (symbols ++ rest) n spelled).fits)

misses_before : (items : List Item) (symbols more : List Symbol) (n : ℕ) → Misses items symbols n → Misses items (symbols ++ more) n
misses_before items symbols more n misses other rest agree clear spelled =
    misses other (more ++ rest) agree (clear_both symbols more rest clear).0
    (subst (λ (all : List Symbol). Spells other all n) (append_assoc symbols more rest) spelled)

-- want of memory
pub stops_for_memory : {items : List Item} {symbols : List Symbol} {i : ℕ} → Stops items symbols i stops.NoMemory
stops_for_memory = record { refused = λ n e. cc }

-- an item that what is wanted misses
pub stops_here : {items : List Item} {symbols : List Symbol} {n : ℕ} → n ≤ length items → Misses items symbols n → Stops items symbols n (stops.At n)
stops_here {items} {symbols} {n} within misses =
    let here : IsRefused items symbols n n = record { within = within; wanted = symbols; leads = leads_here items symbols n; misses = misses } in
    record { refused = λ m e. subst (λ (k : ℕ). IsRefused items symbols n k) (at_same n m e) here }
  where
    at_same : (n m : ℕ) → stops.At n ≡ stops.At m → n ≡ m
    at_same n m e = cc

-- what is refused further on is refused
pub stops_after : {items : List Item} {before after : List Symbol} {i j : ℕ} {stop : Stop} → Leads items before i after j → Stops items after j stop → Stops items before i stop
stops_after leads stopped =
    record {
      refused =
          λ n e.
          let refused = stopped.refused n e in
          record { within = refused.within; wanted = refused.wanted; leads = leads_then leads refused.leads; misses = refused.misses };
    }

-- what is refused is so before whatever else is wanted
pub stops_before : {items : List Item} {symbols : List Symbol} {i : ℕ} {stop : Stop} (more : List Symbol) → Stops items symbols i stop → Stops items (symbols ++ more) i stop
stops_before {items} {symbols} {i} {stop} more stopped =
    record {
      refused =
          λ n e.
          let refused = stopped.refused n e in
          record {
            within = refused.within;
            wanted = refused.wanted ++ more;
            leads = leads_before more refused.leads;
            misses = misses_before items refused.wanted more n refused.misses;
          };
    }

-- a token or a phrase that is refused is so before whatever else is wanted
pub stops_at : {items : List Item} {symbol : Symbol} {symbols : List Symbol} {i : ℕ} {stop : Stop} → Stops items (symbol ∷ []) i stop → Stops items (symbol ∷ symbols) i stop
stops_at {items} {symbol} {symbols} {i} {stop} stopped = stops_before {symbols = symbol ∷ []} symbols stopped
