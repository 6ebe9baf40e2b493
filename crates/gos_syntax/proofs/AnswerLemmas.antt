-- What the parser's functions answer: a phrase that was read, a term that was made, or where they stopped.
use Rattle.std.proofs.Common.{◌≡◌, ℕ, ◌+◌, List, [], ◌∷◌, Result, Ok, Err, IsErrAnd, subst, sym, arith}
use Rattle.std.specs.Global.{Box}
use Rattle.gos_syntax.specs.declared.fault.Stop.{Stop}
use Rattle.gos_syntax.specs.declared.source.Source.{Source}
use Rattle.gos_syntax.specs.declared.terms.Form.{Form}
use Rattle.gos_syntax.specs.declared.terms.Term as program
use Rattle.gos_syntax.specs.Items.{seen, span_of}
use Rattle.gos_syntax.specs.Trees.{tree_of}
use Rattle.gos_syntax.specs.Grammar.{Rule, IsTerm, Derives}
use Rattle.gos_syntax.specs.Symbols.{Symbol, Part}
use Rattle.gos_syntax.specs.Spelling.{Leads, IsRead, Stops}
use Rattle.gos_syntax.specs.inner.Phrases.{phrase_of, IsAnswer, IsReadTo, IsTermAnswer, IsNode, IsNodeAnswer}
use Rattle.gos_syntax.proofs.LeadsLemmas.{stops_for_memory}

-- a `?` passes on where a function stopped
pub refused : {T : Type 0} {source : Source} {wanted : List Symbol} {i : ℕ} {Read : T → ℕ → Type 0} {stop : Stop} (result : Result (T × ℕ) Stop)
    → IsErrAnd result (λ e. e ≡ stop) → Stops (seen source) wanted i stop → IsAnswer source wanted i Read result
refused (Ok read) is stopped = absurd is
refused {source = source} {wanted = wanted} {i = i} (Err e) is stopped =
    record { read = tt; refused = subst (λ (s : Stop). Stops (seen source) wanted i s) (sym is) stopped }

-- what was read is answered
pub answered : {T : Type 0} {source : Source} {wanted : List Symbol} {i end : ℕ} {Read : T → ℕ → Type 0} {value : T}
    → Read value end → IsAnswer source wanted i Read (Ok (value, end))
answered read = record { read = read; refused = tt }

-- what was read is read by another rule
pub read_by : {source : Source} {lower wanted more left : List Symbol} {Lower Derived : Type 0} {i j : ℕ} → IsReadTo source lower more Lower i j
    → (Lower → Derived) → (Leads (seen source) lower i more j → Leads (seen source) wanted i left j) → IsReadTo source wanted left Derived i j
read_by lower derives reads = record { after = lower.after; within = lower.within; derived = derives lower.derived; read = reads lower.read }

-- what was read with a token between its parts
pub read_both : {source : Source} {one other wanted left : List Symbol} {One Other Derived : Type 0} {i j k : ℕ} → IsReadTo source one [] One i j
    → IsReadTo source other [] Other (j + 1) k → Derived → Leads (seen source) wanted i left k → IsReadTo source wanted left Derived i k
read_both first second derived read =
    record { after = omega (arith, first.after, second.after); within = second.within; derived = derived; read = read }

-- a term that was made is read where its form is derived
pub made_to : {source : Source} {rule : Rule} {left : List Symbol} {i j end : ℕ} {form : Form} {term : program.Term} → IsNode source i j form term end
    → IsTerm (seen source) rule i j (tree_of form (span_of (seen source) i j)) → Leads (seen source) (Part (phrase_of rule) ∷ []) i left j
    → IsReadTo source (Part (phrase_of rule) ∷ []) left (Derives (seen source) rule i end term) i end
made_to {source} {rule} {left} {i} {j} {end} {form} {term} node derived read =
    let whole : program.Term = record { span = span_of (seen source) i j; form = form } in
    let there : IsReadTo source (Part (phrase_of rule) ∷ []) left (Derives (seen source) rule i j whole) i j =
    record { after = node.after; within = node.within; derived = derived; read = read } in
    subst (λ (t : program.Term). IsReadTo source (Part (phrase_of rule) ∷ []) left (Derives (seen source) rule i end t) i end) (sym node.made)
    (subst (λ (n : ℕ). IsReadTo source (Part (phrase_of rule) ∷ []) left (Derives (seen source) rule i n whole) i n) (sym node.ends) there)

pub made : {source : Source} {rule : Rule} {i j : ℕ} {form : Form} (result : Result (Box program.Term × ℕ) Stop) → IsNodeAnswer source i j form result
    → IsTerm (seen source) rule i j (tree_of form (span_of (seen source) i j)) → IsRead (seen source) (phrase_of rule) i j → IsTermAnswer source rule i result
made (Ok one) answer derived read = record { read = made_to answer.made derived read; refused = tt }
made {source} {rule} {i} (Err stop) answer derived read =
    record {
      read = tt;
      refused = subst (λ (s : Stop). Stops (seen source) (Part (phrase_of rule) ∷ []) i s) (sym answer.memory) stops_for_memory;
    }
