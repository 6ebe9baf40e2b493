-- How far the parser's functions on functions and blocks read, and on what stands before their bodies.
use Rattle.std.proofs.Common.{◌≡◌, ℕ, ◌+◌, ◌≤◌, List, [], ◌∷◌, length, Option, Some, None, ap, sym, ◌∙◌, subst, arith}
use Rattle.gos_lex.specs.declared.word.Word.TheVariants as words
use Rattle.gos_lex.specs.declared.sign.Sign.TheVariants as signs
use Rattle.gos_lex.specs.declared.token.Span.{Span}
use Rattle.gos_types.specs.Types.{type_of}
use Rattle.gos_syntax.specs.declared.phrases.Parameter.{Parameter}
use Rattle.gos_syntax.specs.declared.phrases.ArrayLength.{ArrayLength}
use Rattle.gos_syntax.specs.declared.phrases.Local.{Local}
use Rattle.gos_syntax.specs.declared.fault.Stop.{Stop}
use Rattle.gos_syntax.specs.declared.fault.Stop.TheVariants as stops
use Rattle.gos_syntax.specs.declared.source.Source.{Source}
use Rattle.gos_syntax.specs.declared.terms.Term as program
use Rattle.gos_syntax.specs.declared.terms.Form.{Form}
use Rattle.gos_syntax.specs.Items.{Item, seen, reading_at, span_of}
use Rattle.gos_syntax.specs.Trees as trees
use Rattle.gos_syntax.specs.Trees.{Tree, tree_of}
use Rattle.gos_syntax.specs.Grammar as rules
use Rattle.gos_syntax.specs.Grammar.{HasWord, HasSign, HasName, HasSmall, IsType, IsTerm, Derives}
use Rattle.gos_syntax.specs.Symbols as symbols
use Rattle.gos_syntax.specs.Symbols.{TheWord, TheSign, Symbol, Part, sign, word, small, IsRule, Term, BlockTail, a_lambda, a_block, a_local, an_array}
use Rattle.gos_syntax.specs.Spelling.{Leads, Stops}
use Rattle.gos_syntax.specs.inner.Phrases.{IsTypeRead}
use Rattle.gos_syntax.specs.inner.Heads.{parameter, local, IsParameter, IsLength, IsLocal, block_of, block_tree}
use Rattle.gos_syntax.proofs.StepLemmas.{two, there, small_there}
use Rattle.gos_syntax.proofs.LeadsLemmas.{leads_then, leads_token, leads_token_to, leads_part, leads_before, stops_after, stops_at}
use Rattle.gos_syntax.proofs.RuleExits.{past_token}
use Rattle.gos_syntax.proofs.RuleLemmas.{Tells, leads_by}
use Rattle.gos_syntax.proofs.StopLemmas.{stops_at_token, stops_at_part}

-- term = "fun" name ":" type "." term
pub parameter_leads : {items : List Item} {i j : ℕ} → HasWord items i words.Fun → Leads items parameter (i + 1) [] j → Leads items (Part Term ∷ []) i (Part Term ∷ []) j
parameter_leads is head = leads_then (past_token a_lambda is) (leads_before {after = []} (Part Term ∷ []) head)

-- term = "new" name [ "[" small "]" ] ":" small "in" term
pub local_leads : {items : List Item} {i j : ℕ} → HasWord items i words.New → Leads items local (i + 1) (Part Term ∷ []) j → Leads items (Part Term ∷ []) i (Part Term ∷ []) j
local_leads is head = leads_then (past_token a_block is) head

-- after the words `fun` and `new` a name, and after the word `fun` a colon
pub named_leads : {items : List Item} {rest : List Symbol} {i j : ℕ} {bytes : List ℕ} → HasName items i bytes → j ≡ i + 1 → Leads items (symbols.name ∷ rest) i rest j
named_leads {bytes = bytes} name one = leads_token_to one (bytes, name)

pub colon_leads : {items : List Item} {rest : List Symbol} {i j k : ℕ} {bytes : List ℕ} → HasName items i bytes → j ≡ i + 1 → HasSign items j signs.Colon → k ≡ j + 1
    → Leads items (symbols.name ∷ sign signs.Colon ∷ rest) i rest k
colon_leads name one colon two = leads_then (named_leads name one) (leads_token_to two colon)

-- what was read between the word `fun` and the body
pub parameter_made : {source : Source} {i k l m : ℕ} (parameter' : Parameter) → HasName (seen source) (i + 1) parameter'.name
    → HasSign (seen source) (i + 2) signs.Colon → k ≡ i + 2 + 1 → IsTypeRead source rules.Whole k parameter'.ty l
    → parameter'.ty_span ≡ span_of (seen source) k l → HasSign (seen source) l signs.Dot → m ≡ l + 1 → m ≤ length source.tokens.now
    → IsParameter source i parameter' m
parameter_made {source} {i} {k} {l} parameter' name colon two ty span dot three within =
    let third : k ≡ i + 3 = omega (arith, two) in
    record {
      after = omega (arith, two, three, ty.after);
      within = within;
      name = name;
      colon = colon;
      dot = l;
      ty = subst (λ (n : ℕ). IsType (seen source) rules.Whole n l (type_of parameter'.ty)) third ty.derived;
      ty_span = span ∙ ap (λ (n : ℕ). span_of (seen source) n l) third;
      dotted = dot;
      body = three;
      read = leads_then (leads_then (colon_leads name (omega arith) colon two) (leads_part ty.read)) (leads_token_to three dot);
    }

-- a length up to its closing bracket, and behind that
pub value_leads : {items : List Item} {i value : ℕ} → HasSign items i signs.OpenSquare → HasSmall items (i + 1) value
    → Leads items (Part BlockTail ∷ []) i (sign signs.CloseSquare ∷ sign signs.Colon ∷ small ∷ word words.In ∷ Part Term ∷ []) (i + 2)
value_leads {items} {i} {value} opened is = leads_then (past_token an_array opened) (leads_token_to (two i) (value, is))

length_leads : {items : List Item} {i value : ℕ} → HasSign items i signs.OpenSquare → HasSmall items (i + 1) value → HasSign items (i + 2) signs.CloseSquare
    → Leads items (Part BlockTail ∷ []) i (sign signs.Colon ∷ small ∷ word words.In ∷ Part Term ∷ []) (i + 3)
length_leads {items} {i} {value} opened is closed =
    let next : i + 3 ≡ i + 2 + 1 = omega arith in leads_then (value_leads opened is) (leads_token_to next closed)

-- a length in square brackets, if there is one, and a colon
pub wide_leads : (items : List Item) (i k l : ℕ) (many : Option ArrayLength) → IsLength items i many k → HasSign items k signs.Colon → l ≡ k + 1
    → Leads items (Part BlockTail ∷ []) i (small ∷ word words.In ∷ Part Term ∷ []) l
wide_leads items i k l None (e, none) colon one =
    let first : HasSign items i signs.Colon = subst (λ (n : ℕ). HasSign items n signs.Colon) (sym e) colon in
    let next : l ≡ i + 1 = omega (arith, e, one) in
    leads_then (leads_by a_local first) (leads_token_to next first)
wide_leads items i k l (Some many) (opened, value, span, closed, e) colon one =
    let third : HasSign items (i + 3) signs.Colon = subst (λ (n : ℕ). HasSign items n signs.Colon) (sym e) colon in
    let next : l ≡ i + 3 + 1 = omega (arith, e, one) in
    leads_then (length_leads opened value closed) (leads_token_to next third)

-- neither a length nor a colon stands behind a name
pub colon_stops : (source : Source) {i k : ℕ} (many : Option ArrayLength) {stop : Stop} → k ≤ length source.tokens.now → IsLength (seen source) i many k
    → (HasSign (seen source) k signs.Colon → ⊥) → stop ≡ stops.At k → Stops (seen source) (Part BlockTail ∷ []) i stop
colon_stops source {i} {k} None {stop} within (e, none) absent here =
    let first : stop ≡ stops.At i = here ∙ ap (λ (n : ℕ). stops.At n) (sym e) in
    subst (λ (s : Stop). Stops (seen source) (Part BlockTail ∷ []) i s) (sym first) (stops_at_part source BlockTail i (omega (arith, e, within)) no_rule)
  where
    no_rule : (body : List Symbol) (rule : IsRule BlockTail body) → Tells rule (reading_at (seen source) i) → ⊥
    no_rule _ a_local told = absent (subst (λ (n : ℕ). HasSign (seen source) n signs.Colon) e told)
    no_rule _ an_array told = none told
colon_stops source {i} {k} (Some many) {stop} within (opened, value, span, closed, e) absent here =
    let third : stop ≡ stops.At (i + 3) = here ∙ ap (λ (n : ℕ). stops.At n) (sym e) in
    let no_colon : HasSign (seen source) (i + 3) signs.Colon → ⊥ = λ is. absent (subst (λ (n : ℕ). HasSign (seen source) n signs.Colon) e is) in
    let stopped : Stops (seen source) (sign signs.Colon ∷ []) (i + 3) (stops.At (i + 3)) = stops_at_token source (TheSign signs.Colon) (i + 3) (omega (arith, e, within)) no_colon in
    subst (λ (s : Stop). Stops (seen source) (Part BlockTail ∷ []) i s) (sym third) (stops_after (length_leads opened value closed) (stops_at stopped))

-- a length takes no item or some
length_after : (items : List Item) (i k : ℕ) (many : Option ArrayLength) → IsLength items i many k → i ≤ k
length_after items i k None (e, none) = omega (arith, e)
length_after items i k (Some many) (opened, value, span, closed, e) = omega (arith, e)

-- what was read between the word `new` and the body
pub local_made : {source : Source} {i : ℕ} (k w l : ℕ) (local' : Local) → HasName (seen source) (i + 1) local'.name
    → IsLength (seen source) (i + 2) local'.length k → HasSign (seen source) k signs.Colon → w ≡ k + 1 → HasSmall (seen source) w local'.width
    → local'.width_span ≡ span_of (seen source) w (w + 1) → HasWord (seen source) (w + 1) words.In → l ≡ w + 1 + 1 → l ≤ length source.tokens.now
    → IsLocal source i local' l
local_made {source} {i} k w l local' name long colon one width span is last within =
    let after = length_after (seen source) (i + 2) k local'.length long in
    let second : w + 1 ≡ k + 2 = omega (arith, one) in
    record {
      after = omega (arith, after, one, last);
      within = within;
      name = name;
      colon = k;
      long = long;
      is_colon = colon;
      width = subst (λ (n : ℕ). HasSmall (seen source) n local'.width) one width;
      width_span = span ∙ ap (λ (n : ℕ). span_of (seen source) n (w + 1)) one ∙ ap (λ (n : ℕ). span_of (seen source) (k + 1) n) second;
      in_word = subst (λ (n : ℕ). HasWord (seen source) n words.In) second is;
      body = omega (arith, one, last);
      read =
          leads_then (leads_then (leads_then (named_leads name (omega arith)) (wide_leads (seen source) (i + 2) k w local'.length long colon one)) (leads_token (local'.width, width)))
          (leads_token_to last is);
    }

-- a function and a block are derived
pub function_derived : {source : Source} {i j k : ℕ} {parameter' : Parameter} (body : program.Term) → HasWord (seen source) i words.Fun
    → IsParameter source i parameter' j → Derives (seen source) rules.Term j k body
    → IsTerm (seen source) rules.Term i k (trees.Lam (span_of (seen source) i k) parameter'.name (type_of parameter'.ty) parameter'.ty_span (tree_of body.form body.span))
function_derived {source} {i} {j} {k} {parameter'} body is head derived =
    let tree : Tree = tree_of body.form body.span in
    subst (λ (span : Span). IsTerm (seen source) rules.Term i k (trees.Lam (span_of (seen source) i k) parameter'.name (type_of parameter'.ty) span tree)) (sym head.ty_span)
    (rules.a_lambda i head.dot k parameter'.name (type_of parameter'.ty) tree is head.name head.colon head.ty head.dotted
    (subst (λ (n : ℕ). IsTerm (seen source) rules.Term n k tree) head.body derived))

-- a block whose parts stand behind its name
block_derived_of : (items : List Item) (i k colon : ℕ) (name : List ℕ) (width : ℕ) (body : Tree) (many : Option ArrayLength) → HasWord items i words.New
    → HasName items (i + 1) name → IsLength items (i + 2) many colon → HasSign items colon signs.Colon → HasSmall items (colon + 1) width
    → HasWord items (colon + 2) words.In → IsTerm items rules.Term (colon + 3) k body
    → IsTerm items rules.Term i k (block_of (span_of items i k) name many width (span_of items (colon + 1) (colon + 2)) body)
block_derived_of items i k colon name width body None is named (e, none) is_colon wide in_word derived =
    let at_width : colon + 1 ≡ i + 3 = omega (arith, e) in
    let at_in : colon + 2 ≡ i + 4 = omega (arith, e) in
    let at_body : colon + 3 ≡ i + 5 = omega (arith, e) in
    subst (λ (s : Span). IsTerm items rules.Term i k (trees.New (span_of items i k) name width s body))
    (ap (λ (n : ℕ). span_of items n (i + 4)) (sym at_width) ∙ ap (λ (n : ℕ). span_of items (colon + 1) n) (sym at_in))
    (rules.a_block i k name width body is named (there items (TheSign signs.Colon) colon (i + 2) (sym e) is_colon) (small_there items width (colon + 1) (i + 3) at_width wide)
    (there items (TheWord words.In) (colon + 2) (i + 4) at_in in_word) (subst (λ (n : ℕ). IsTerm items rules.Term n k body) at_body derived))
block_derived_of items i k colon name width body (Some many) is named (opened, value, span, closed, e) is_colon wide in_word derived =
    let at_length : i + 2 + 1 ≡ i + 3 = omega arith in
    let at_close : i + 2 + 2 ≡ i + 4 = omega arith in
    let at_colon : colon ≡ i + 5 = omega (arith, e) in
    let at_width : colon + 1 ≡ i + 6 = omega (arith, e) in
    let at_in : colon + 2 ≡ i + 7 = omega (arith, e) in
    let at_body : colon + 3 ≡ i + 8 = omega (arith, e) in
    let long = ap (λ (n : ℕ). span_of items n (i + 4)) (sym at_length) ∙ ap (λ (n : ℕ). span_of items (i + 2 + 1) n) (sym at_close) ∙ sym span in
    let narrow = ap (λ (n : ℕ). span_of items n (i + 7)) (sym at_width) ∙ ap (λ (n : ℕ). span_of items (colon + 1) n) (sym at_in) in
    subst (λ (s : Span). IsTerm items rules.Term i k (trees.Array (span_of items i k) name many.value s width (span_of items (colon + 1) (colon + 2)) body)) long
    (subst (λ (s : Span). IsTerm items rules.Term i k (trees.Array (span_of items i k) name many.value (span_of items (i + 3) (i + 4)) width s body)) narrow
    (rules.an_array i k name many.value width body is named opened (small_there items many.value (i + 2 + 1) (i + 3) at_length value)
    (there items (TheSign signs.CloseSquare) (i + 2 + 2) (i + 4) at_close closed) (there items (TheSign signs.Colon) colon (i + 5) at_colon is_colon)
    (small_there items width (colon + 1) (i + 6) at_width wide) (there items (TheWord words.In) (colon + 2) (i + 7) at_in in_word)
    (subst (λ (n : ℕ). IsTerm items rules.Term n k body) at_body derived)))

pub block_derived : {source : Source} {i j k : ℕ} {local' : Local} (body : program.Term) → HasWord (seen source) i words.New
    → IsLocal source i local' j → Derives (seen source) rules.Term j k body
    → IsTerm (seen source) rules.Term i k (block_tree (span_of (seen source) i k) local' (tree_of body.form body.span))
block_derived {source} {i} {j} {k} {local'} body is head derived =
    let tree : Tree = tree_of body.form body.span in
    subst (λ (span : Span). IsTerm (seen source) rules.Term i k (block_of (span_of (seen source) i k) local'.name local'.length local'.width span tree)) (sym head.width_span)
    (block_derived_of (seen source) i k head.colon local'.name local'.width tree local'.length is head.name head.long head.is_colon head.width head.in_word
    (subst (λ (n : ℕ). IsTerm (seen source) rules.Term n k tree) head.body derived))

-- the term of a block that was made of what was read
pub block_made : (source : Source) (i j : ℕ) (local' : Local) (body : program.Term) (form : Form)
    → ((span : Span) → tree_of form span ≡ block_tree span local' (tree_of body.form body.span))
    → IsTerm (seen source) rules.Term i j (block_tree (span_of (seen source) i j) local' (tree_of body.form body.span))
    → IsTerm (seen source) rules.Term i j (tree_of form (span_of (seen source) i j))
block_made source i j local' body form same derived =
    subst (λ (t : Tree). IsTerm (seen source) rules.Term i j t) (sym (same (span_of (seen source) i j))) derived
