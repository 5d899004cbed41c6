-- The three functions of the walk, step by step.
use Rattle.std.specs.Prelude.{◌≡◌, ℕ, suc, ◌+◌, ◌<◌, ◌≤◌, Bool, true, false, ◌&&◌, cond, List, [], ◌∷◌, ◌++◌}
use Rattle.std.specs.Prelude.{Option, Some, None, map, filter, length, take, drop, refl}
use Rattle.std.proofs.Common.{sym, ◌∙◌, ap, subst, arith, append-nil}
use Rattle.std.proofs.Math.Seq.{take-length, take-append_seam, drop-append_seam}
use Rattle.std.proofs.lemmas.List.{length-map, map-append, take-map, drop-map}
use Rattle.js_doc.specs.Members.{IsAscending}
use Rattle.js_doc.specs.Pointer.{pointer_text}
use Rattle.js_doc.specs.Value.{Value}
use Rattle.js_assert.specs.Argument.{entries}
use Rattle.js_tree.specs.Forest.{empty}
use Rattle.js_eval.specs.Applications.{Application}
use Rattle.js_eval.specs.Keywords.{Member, keywords}
use Rattle.js_keyword.specs.Keyword.{which_keyword}
use Rattle.js_eval.specs.Location.{step_tokens}
use Rattle.js_eval.specs.SchemaSet.{Text, SchemaSet, Step}
use Rattle.js_keyword.specs.declared.keyword.Keyword.{Keyword}
use Rattle.js_tree.specs.Events.{Event, Passes, opening, closing}
use Rattle.js_tree.specs.Note.{silent}
use Rattle.js_eval.specs.Walk.Keeping.{condition_step, matching_step}
use Rattle.js_eval.specs.Walk.Reported.{DropsSilent}
use Rattle.js_eval.specs.Walk.Steps.{MarkOf, StartOf, SchemaOpened, SchemaClosed, IsJudged, KeywordOpened}
use Rattle.js_eval.specs.Walk.Steps.{KeywordClosed, WentDown, CameBack, NodeDone, KeywordDone, EachDone}
use Rattle.js_eval.specs.Walk.Progress.{IsAt, IsStateRestored, LeafReported, KeywordWalked, NodeWalked, KeywordHasNone}
use Rattle.js_eval.specs.Walk.Progress.{SomeHasNone, HasNone, asked_by, names_given}
use Rattle.js_eval.specs.Walk.Progress.{indexes_given, at_name, keywords_at}
use Rattle.js_eval.specs.Walk.Progress.{accepts_at, kind_at, says_at, schema_says, at_step}
use Rattle.js_eval.specs.Fault.{OnTooLarge}
use Rattle.js_eval.specs.declared.evaluation.fault.WalkFault.{WalkFault}
use Rattle.js_eval.specs.declared.evaluation.fault.WalkFault.TheVariants.{Memory, TooLarge}
use Rattle.js_eval.specs.Walk.DynamicScope.{HasGrown}
use Rattle.js_eval.specs.declared.evaluation.walk_state.Mark.{Mark}
use Rattle.js_eval.specs.declared.evaluation.walk_state.Start.{Start}
use Rattle.js_eval.specs.declared.evaluation.tally.KeywordVerdict.{KeywordVerdict}
use Rattle.js_eval.specs.declared.evaluation.tally.Tally.{Tally}
use Rattle.js_eval.specs.declared.evaluation.walk_state.WalkState.{WalkState}
use Rattle.js_eval.proofs.Recursion.Before.{CountsLater, is_as_before}
use Rattle.js_eval.proofs.Recursion.Each.{EachSoFar, each_more, each_none}
use Rattle.js_eval.proofs.Recursion.KeywordNode.{keyword_walked, keyword_reported}
use Rattle.js_eval.proofs.Recursion.Sources.{names_of_none, indexes_of_none}
use Rattle.js_eval.specs.Walk.Visited.{is_visited, AreJudgedIf}
use Rattle.js_eval.specs.declared.evaluation.tally.Others.{Others}
use Rattle.js_eval.proofs.Recursion.KeywordByKeyword.{KeywordsLoop, at_next, at_end, keywords_start, keyword_more}
use Rattle.js_eval.proofs.Recursion.AllKeywords.{node_walked}
use Rattle.js_eval.proofs.Recursion.KeywordByKeyword.{keyword_reported_more, keyword_is_none, ended}
use Rattle.js_eval.proofs.Recursion.KeywordByKeyword.{ended_too_large, ended_reported}

pub asked_same : {P : Type 0} (S : SchemaSet P) (n : ℕ) (path : List P) (place : P) (v : Value) (k : Member)
    (c : Option Bool) (ns : List Text) (is : List ℕ)
    → asked_by S 0 path place v k c ns is ≡ asked_by S n path place v k c ns is
unfolding asked_by
asked_same S n path place v k c ns is = refl

map_cut : {A B : Type 0} (f : A → B) (b : Bool) (n : ℕ) (xs ys : List A) → ys ≡ cond b xs (take n xs)
    → map f ys ≡ cond b (map f xs) (take n (map f xs))
map_cut f true n xs ys e = ap (map f) e
map_cut f false n xs ys e = ap (map f) e ∙ sym (take-map f n xs)

pub map_with_last : {A B : Type 0} (f : A → B) (xs ys : List A) (x : A) → ys ≡ xs ++ x ∷ []
    → map f ys ≡ map f xs ++ f x ∷ []
map_with_last f xs ys x e = ap (map f) e ∙ map-append f xs (x ∷ [])

pub kept_whole : {A : Type 0} (b : Bool) (xs : List A) → xs ≡ cond b xs (take (length xs) xs)
kept_whole true xs = refl
kept_whole false xs = sym (take-length xs)

pub trail_back : (old new : Text) (k : Member) (mark : ℕ) → mark ≡ length old
    → new ≡ at_name old k → take mark new ≡ old
unfolding at_name
trail_back old new k mark m e = ap (λ n. take n new) m
    ∙ (ap (take (length old)) e ∙ take-append_seam old (pointer_text (k.0 ∷ [])))

pub step_back : (old new : Text) (s : Step) (mark : ℕ) → mark ≡ length old → new ≡ at_step old s → take mark new ≡ old
unfolding at_step
step_back old new s mark m e = ap (λ n. take n new) m
    ∙ (ap (take (length old)) e ∙ take-append_seam old (pointer_text (step_tokens s)))

pub kind_is : (k : Member) → kind_at k ≡ which_keyword k.0
unfolding kind_at
kind_is k = refl

pub at_most_one : (b : Bool) → cond b 1 0 ≤ 1
at_most_one true = omega arith
at_most_one false = omega arith

pub on_too_large : (P Q : Type 0) (e : WalkFault) → (P → Q) → OnTooLarge e P → OnTooLarge e Q
on_too_large P Q Memory f h = tt
on_too_large P Q TooLarge f h = f h

module _ {C P : Type 0} (S : SchemaSet P) (takes : C → Event → C
    → Type 0) (n : ℕ) (above : List P) (place : P) (v : Value) (quiet : Bool) where
  pub loop_as : (k : Member) (rest : List Member) (valid b valid' : Bool) (branch branch' : Option Bool)
      (count count' succeeded : ℕ) (κ : Keyword) (names names' : List Text) (indexes indexes' : List ℕ)
      (old left : ℕ)
      (keyword instance : Text) (c d : C)
      → valid' ≡ (valid && b) → branch' ≡ condition_step κ succeeded branch
      → count' ≡ matching_step κ succeeded count → κ ≡ kind_at k
      → KeywordsLoop S n above place v quiet takes rest (valid && b) (condition_step (which_keyword k.0) succeeded
      branch)
      (matching_step (which_keyword k.0) succeeded count) names names' indexes indexes' old left keyword instance c d
      → KeywordsLoop S n above place v quiet takes rest valid' branch' count' names names' indexes indexes' old
      left keyword instance c d
  unfolding kind_at
  loop_as k rest valid b valid' branch branch' count count' succeeded κ names names' indexes indexes' old left keyword
      instance c d e f g h loop =
      let f' : branch' ≡ condition_step (which_keyword k.0) succeeded branch = f
      ∙ ap (λ q. condition_step q succeeded branch) h in
      let g' : count' ≡ matching_step (which_keyword k.0) succeeded count = g
      ∙ ap (λ q. matching_step q succeeded count) h in
      subst (λ x. KeywordsLoop S n above place v quiet takes rest x branch' count' names names' indexes indexes' old
      left keyword instance c d) (sym e)
      (subst (λ x. KeywordsLoop S n above place v quiet takes rest (valid && b) x count' names names' indexes indexes'
      old left keyword instance c d) (sym f')
      (subst (λ x. KeywordsLoop S n above place v quiet takes rest (valid && b)
      (condition_step (which_keyword k.0) succeeded branch)
      x names names' indexes indexes' old left keyword instance c d) (sym g') loop))

module _ {M H K C P : Type 0} (S : SchemaSet P) (text_of : M → Text) (takes : C → Event → C → Type 0) (n : ℕ) where
  -- ---- applications

  module _ (path : List P) (κ : Keyword) (all rest : List (Application P)) (a : Application P) (names : List Text)
      (indexes : List ℕ) (old : ℕ) (keyword instance : Text) where
    pub each_step : (len : K → ℕ) (tally : Tally) (w w₁ w₂ w₃ : WalkState M H K) (mark : Mark K) (p : P)
        (path' : List P) (v : Value) (holds : Bool) (c d e : C)
        → EachSoFar S n path κ takes all (a ∷ rest) tally.asked tally.succeeded names (map text_of w.names.items)
        indexes
        w.indexes.items old w.left keyword instance c d
        → w.keyword ≡ keyword → w.instance ≡ instance → MarkOf len w mark → WentDown a w w₁ → path' ≡ path
        → p ≡ a.place → v ≡ a.value
        → NodeDone S text_of takes n path' p v holds w₁ w₂ d e → CameBack text_of len κ a mark holds w₂ w₃
        → EachSoFar S n path κ takes all rest (tally.asked + 1) (tally.succeeded + cond holds 1 0) names
        (map text_of w₃.names.items) indexes w₃.indexes.items old w₃.left keyword instance c e
    each_step len tally w w₁ w₂ w₃ mark p path' v holds c d e so wk wi m go ep eq er done back =
        let m1 : mark.names ≡ length (map text_of w.names.items) = m.names ∙ sym (length-map w.names.items text_of) in
        let node = rw (ep, eq, er, go.names, go.indexes, go.left) at done.walked in
        let f = rw m1 at back.names in
        let g = rw m.indexes at back.indexes in
        let all_of = each_more S n path κ takes all rest a tally.asked tally.succeeded names (map text_of w.names.items)
        (map text_of w₂.names.items) (map text_of w₃.names.items) indexes w.indexes.items w₂.indexes.items
        w₃.indexes.items old w.left w₂.left keyword instance c d e holds so node
        (λ at h. let h' : IsAt at w₁.keyword w₁.instance =
        record {
          schemas = go.keyword ∙ (ap (λ t. at_step t a.step) wk ∙ h.schemas);
          value = go.instance ∙ (ap (λ t. at_step t a.at) wi ∙ h.value);
        } in rw (ep, eq, er) at (done.reported at h'))
        f g in
        subst (λ l. EachSoFar S n path κ takes all rest (tally.asked + 1) (tally.succeeded + cond holds 1 0) names
        (map text_of w₃.names.items) indexes w₃.indexes.items old l keyword instance c e) (sym back.left) all_of

    pub each_failed : (asked succeeded : ℕ) (names' : List Text) (indexes' : List ℕ) (left : ℕ) (w w₁ : WalkState M H K)
        (p : P) (path' : List P) (v : Value) (c d : C)
        → EachSoFar S n path κ takes all (a ∷ rest) asked succeeded names names' indexes indexes' old w.left keyword
        instance c d → WentDown a w w₁ → path' ≡ path → p ≡ a.place → v ≡ a.value
        → HasNone S n path' p v w₁.left → SomeHasNone S n path all old
    each_failed asked succeeded names' indexes' left w w₁ p path' v c d so go ep eq er none =
        each_none S n path κ takes all rest a asked succeeded names names' indexes indexes' old w.left keyword instance
        c d
        so (rw (ep, eq, er, go.left) at none)

  -- ---- a keyword

  module _ (path : List P) (place : P) (v : Value) (k : Member) (matching : ℕ) (apps : List (Application P)) where
    pub keyword_step : (len : K → ℕ) (w w₁ w₂ w₃ : WalkState M H K) (here : Mark K) (tally : Tally) (passes : Bool)
        (path' : List P) (κ : Keyword) (apps' : List (Application P)) (c c' d' d : C)
        → MarkOf len w here → KeywordOpened S text_of takes place k w w₁ c c' → path' ≡ path
        → κ ≡ kind_at k → apps' ≡ apps
        → EachDone S text_of takes n path' κ apps' tally w₁ w₂ c' d'
        → KeywordClosed S text_of takes len place v k matching tally here passes w₂ w₃ d' d
        → KeywordDone S text_of takes n path place v k matching apps
        (record { passes = passes; succeeded = tally.succeeded }) w w₃ c d
    keyword_step len w w₁ w₂ w₃ here tally passes path' κ apps' c c' d' d m opened ep ek ea each close =
        let m1 : here.names ≡ length (map text_of w.names.items) = m.names ∙ sym (length-map w.names.items text_of) in
        let ew = rw (ep, ek, ea, opened.names, opened.indexes) at each.walked in
        let cut : map text_of w₃.names.items ≡ cond passes (map text_of w₂.names.items)
        (take (length (map text_of w.names.items)) (map text_of w₂.names.items)) =
        map_cut text_of passes here.names w₂.names.items w₃.names.items close.names
        ∙ ap (λ i. cond passes (map text_of w₂.names.items) (take i (map text_of w₂.names.items))) m1 in
        let cut' = rw m.indexes at close.indexes in
        let walked = keyword_walked S n path place v k matching apps passes tally.asked tally.succeeded
        (map text_of w.names.items) (map text_of w₂.names.items) (map text_of w₃.names.items) w.indexes.items
        w₂.indexes.items w₃.indexes.items w.left w₁.left w₂.left ew opened.left close.verdict cut cut' in
        let seg : map text_of (drop here.names w₂.names.items) ≡ names_given S n path (kind_at k) apps =
        sym (drop-map text_of here.names w₂.names.items) ∙ (ap (λ i. drop i (map text_of w₂.names.items)) m1 ∙ (ap (drop
        (length (map text_of w.names.items))) ew.of_names ∙ drop-append_seam (map text_of w.names.items) _)) in
        let seg' : drop here.indexes w₂.indexes.items ≡ indexes_given S n path (kind_at k) apps =
        ap (λ i. drop i w₂.indexes.items) m.indexes
        ∙ (ap (drop (length w.indexes.items)) ew.of_indexes ∙ drop-append_seam w.indexes.items _) in
        record {
          walked = subst (λ l. KeywordWalked S n path place v k matching apps passes tally.succeeded
              (map text_of w.names.items) (map text_of w₃.names.items) w.indexes.items w₃.indexes.items w.left l)
              (sym close.left) walked;
          reported = λ at h. keyword_reported S n path place v k matching apps takes passes tally.asked tally.succeeded
              (map text_of w.names.items) (map text_of w₂.names.items) w.indexes.items w₂.indexes.items w₁.left
              w₂.left w.keyword w.instance
              (S.absolute place (Some k.0)) (at_name w.keyword k) (says_at S place v matching k tally.succeeded
              (map text_of (drop here.names w₂.names.items)) (drop here.indexes w₂.indexes.items) passes)
              (map text_of (drop here.names w₂.names.items)) (drop here.indexes w₂.indexes.items) c c' d' d at h ew
              walked.verdict refl refl opened.reported
              (λ at' h'. rw (ep, ea) at (each.reported at'
              (record { schemas = opened.keyword ∙ h'.schemas; value = opened.instance ∙ h'.value })))
              seg seg' refl close.reported;
          back = record {
            path = close.path ∙ (each.back.path ∙ opened.path);
            scope = close.scope ∙ (each.back.scope ∙ opened.scope);
            keyword = close.keyword ∙ trail_back w.keyword w₂.keyword k (len here.keyword) m.keyword
                (each.back.keyword ∙ opened.keyword);
            instance = close.instance ∙ (each.back.instance ∙ opened.instance);
          };
          falls = omega (arith, close.left, each.falls, opened.left);
        }

  -- a keyword that asks for nothing
  nothing_done : (path : List P) (κ : Keyword) (w : WalkState M H K) (c : C)
      → EachDone S text_of takes n path κ [] (record { asked = 0; succeeded = 0 }) w w c c
  nothing_done path κ w c = record {
    walked = record {
      settled = refl;
      many = refl;
      holding = refl;
      of_names = sym (ap (λ l. map text_of w.names.items ++ l) (names_of_none S n path κ)
          ∙ append-nil (map text_of w.names.items));
      of_indexes = sym (ap (λ l. w.indexes.items ++ l) (indexes_of_none S n path κ) ∙ append-nil w.indexes.items);
      spent = omega arith;
    };
    reported = λ at h. record { forest = empty; nodes = tt; passes = refl };
    back = record { path = refl; scope = refl; keyword = refl; instance = refl };
    falls = omega arith;
  }

  -- a keyword that applies no schema, whose node opens and closes at once
  pub leaf_step : (path : List P) (place : P) (v : Value) (k : Member) (matching : ℕ) (passes : Bool)
      (w w₁ : WalkState M H K) (c d : C)
      → IsJudged S place v k matching (record { asked = 0; succeeded = 0 }) passes
      → LeafReported S takes place v k matching passes 0 w.keyword w.instance c d
      → w₁.names.items ≡ w.names.items → w₁.indexes.items ≡ w.indexes.items
      → w₁.left + 1 ≡ w.left → IsStateRestored w w₁
      → KeywordDone S text_of takes n path place v k matching [] (record { passes = passes; succeeded = 0 }) w w₁ c d
  leaf_step path place v k matching passes w w₁ c d judged leaf names indexes left back =
      let none = nothing_done path (kind_at k) w₁ c in
      let none_walked = rw (names, indexes) at none.walked in
      let walked = keyword_walked S n path place v k matching [] passes 0 0 (map text_of w.names.items)
      (map text_of w.names.items) (map text_of w₁.names.items) w.indexes.items w.indexes.items w₁.indexes.items
      w.left w₁.left w₁.left none_walked left judged
      (ap (map text_of) names ∙ kept_whole passes (map text_of w.names.items))
      (indexes ∙ kept_whole passes w.indexes.items) in
      let said = says_at S place v matching k 0 [] [] passes in
      record {
        walked = walked;
        reported = λ at h.
            let closed : takes leaf.0 (closing passes said) d =
            subst (λ x. takes leaf.0 (closing passes said) x) leaf.2.2 leaf.2.1 in
            keyword_reported S n path place v k matching [] takes passes 0 0 (map text_of w.names.items)
            (map text_of w.names.items) w.indexes.items w.indexes.items w₁.left w₁.left w.keyword w.instance
            (S.absolute place (Some k.0)) (at_name w.keyword k) said [] [] c leaf.0 leaf.0 d at h none_walked
            walked.verdict refl refl leaf.1
            (λ at' h'. record { forest = empty; nodes = tt; passes = refl })
            (sym (names_of_none S n path (kind_at k))) (sym (indexes_of_none S n path (kind_at k))) refl closed;
        back = back;
        falls = omega (arith, left);
      }

  -- one that passes and has no note, of which the reporter keeps nothing
  pub skipped_step : (path : List P) (place : P) (v : Value) (k : Member) (matching : ℕ) (passes : Bool)
      (w w₁ : WalkState M H K) (c : C)
      → passes ≡ true → IsJudged S place v k matching (record { asked = 0; succeeded = 0 }) passes
      → says_at S place v matching k 0 [] [] true ≡ silent → DropsSilent takes c
      → w₁.names.items ≡ w.names.items → w₁.indexes.items ≡ w.indexes.items
      → w₁.left + 1 ≡ w.left → IsStateRestored w w₁
      → KeywordDone S text_of takes n path place v k matching [] (record { passes = passes; succeeded = 0 }) w w₁ c c
  skipped_step path place v k matching passes w w₁ c p judged said drops names indexes left back =
      let silent_is : closing true silent ≡ closing passes (says_at S place v matching k 0 [] [] passes) =
      ap (λ b. closing b silent) (sym p)
      ∙ ap (closing passes) (sym said ∙ ap (λ b. says_at S place v matching k 0 [] [] b) (sym p)) in
      let opened : Event = opening (at_name w.keyword k) (S.absolute place (Some k.0)) w.instance in
      let leaf = subst (λ e. Passes takes (opened ∷ e ∷ []) c c) silent_is
      (drops (at_name w.keyword k) (S.absolute place (Some k.0)) w.instance) in
      leaf_step path place v k matching passes w w₁ c c judged leaf names indexes left back

  -- ---- a schema

  -- what its keywords have evaluated, as it is counted from the start
  names_since : (w w₁ : WalkState M H K) (start : Start) → StartOf w start
      → map text_of (drop start.names w₁.names.items)
      ≡ drop (length (map text_of w.names.items)) (map text_of w₁.names.items)
  names_since w w₁ start m = sym (drop-map text_of start.names w₁.names.items)
      ∙ ap (λ i. drop i (map text_of w₁.names.items)) (m.names ∙ sym (length-map w.names.items text_of))

  indexes_since : (w w₁ : WalkState M H K) (start : Start) → StartOf w start
      → drop start.indexes w₁.indexes.items ≡ drop (length w.indexes.items) w₁.indexes.items
  indexes_since w w₁ start m = ap (λ i. drop i w₁.indexes.items) m.indexes

  module _ (above : List P) (place : P) (v : Value) (quiet : Bool) where
    pub node_start : (w w₁ : WalkState M H K) (p r : ℕ) (c d : C) (valid : Bool) (listed : List Member)
        → SchemaOpened S text_of takes place p r w w₁ c d → valid ≡ accepts_at S place
        → listed ≡ filter (is_visited quiet) (keywords_at S place)
        → KeywordsLoop S n above place v quiet takes listed valid None 0 (map text_of w.names.items)
        (map text_of w₁.names.items) w.indexes.items w₁.indexes.items w.left w₁.left w.keyword w.instance c d
    unfolding accepts_at keywords_at
    node_start w w₁ p r c d valid listed opened a l =
        rw (opened.names, opened.indexes) (record {
          done = [];
          rest = keywords (S.schema place);
          are = l;
          so = keywords_start S n above place v quiet valid (map text_of w.names.items) w.indexes.items
              w.left w₁.left a opened.left;
          reported = λ q at h. record {
            forest = empty;
            nodes = tt;
            passes = (
              d,
              subst (λ x. takes c x d) (let i = h.schemas in
                  let j = h.value in let q : opening w.keyword (S.absolute place None) w.instance
                  ≡ opening (pointer_text
                  at.keyword) (S.absolute place None) (pointer_text at.instance) = cc in q) opened.reported,
              refl,
            );
          };
        })

    pub node_more : CountsLater → IsAscending (entries (S.schema place))
        → (k : Member) (rest : List Member) (valid : Bool) (branch : Option Bool) (count : ℕ)
        (w w₁ w₂ : WalkState M H K) (start : Start) (j : KeywordVerdict) (path' : List P) (c d e : C)
        → StartOf w start → path' ≡ above ++ place ∷ [] → w₁.keyword ≡ w.keyword → w₁.instance ≡ w.instance
        → KeywordsLoop S n above place v quiet takes (k ∷ rest) valid branch count (map text_of w.names.items)
        (map text_of w₁.names.items) w.indexes.items w₁.indexes.items w.left w₁.left w.keyword w.instance c d
        → KeywordDone S text_of takes n path' place v k count (asked_by S n path' place v k branch
        (map text_of (drop start.names w₁.names.items)) (drop start.indexes w₁.indexes.items)) j w₁ w₂ d e
        → KeywordsLoop S n above place v quiet takes rest (valid && j.passes) (condition_step (which_keyword k.0)
        j.succeeded branch) (matching_step (which_keyword k.0) j.succeeded count) (map text_of w.names.items)
        (map text_of w₂.names.items)
        w.indexes.items w₂.indexes.items w.left w₂.left w.keyword w.instance c e
    node_more later ascending k rest valid branch count w w₁ w₂ start j path' c d e m ep ek ei loop done =
        let next = at_next S n above place v quiet takes valid branch count (map text_of w.names.items) (map text_of
        w₁.names.items) w.indexes.items w₁.indexes.items w.left w₁.left w.keyword w.instance c d k rest loop in
        let before = is_as_before later S n above place v ascending next.done next.rest k next.so.split in
        let x = names_since w w₁ start m in let y = indexes_since w w₁ start m in
        record {
          done = next.done ++ k ∷ [];
          rest = next.rest;
          are = next.are;
          so = keyword_more S n above place v quiet k next.done next.rest valid branch count
              (map text_of w.names.items) (map text_of w₁.names.items) w.indexes.items w₁.indexes.items w.left w₁.left
              next.so before next.here j.passes j.succeeded (map text_of w₂.names.items) w₂.indexes.items w₂.left
              (rw (ep, x, y) at done.walked);
          reported = λ q at h. keyword_reported_more S n above place v quiet k next.done next.rest valid branch count
              (map text_of w.names.items) (map text_of w₁.names.items) w.indexes.items w₁.indexes.items w.left w₁.left
              next.so before takes at c d e (next.reported q at h)
              (rw (ep, x, y) at (done.reported at (record { schemas = ek ∙ h.schemas; value = ei ∙ h.value })));
        }

    pub node_failed : CountsLater → IsAscending (entries (S.schema place)) → (k : Member) (rest : List Member) (valid
        : Bool) (branch : Option Bool) (count : ℕ) (w w₁ : WalkState M H K) (start : Start) (path' : List P) (c d : C)
        → StartOf w start → path' ≡ above ++ place ∷ []
        → KeywordsLoop S n above place v quiet takes (k ∷ rest) valid branch count (map text_of w.names.items)
        (map text_of w₁.names.items) w.indexes.items w₁.indexes.items w.left w₁.left w.keyword w.instance c d
        → KeywordHasNone S n path' place v k (asked_by S n path' place v k branch
        (map text_of (drop start.names w₁.names.items)) (drop start.indexes w₁.indexes.items)) w₁.left
        → HasNone S (suc n) above place v w.left
    node_failed later ascending k rest valid branch count w w₁ start path' c d m ep loop none =
        let next = at_next S n above place v quiet takes valid branch count (map text_of w.names.items) (map text_of
        w₁.names.items) w.indexes.items w₁.indexes.items w.left w₁.left w.keyword w.instance c d k rest loop in
        let before = is_as_before later S n above place v ascending next.done next.rest k next.so.split in
        let x = names_since w w₁ start m in let y = indexes_since w w₁ start m in
        keyword_is_none S n above place v quiet k next.done next.rest valid branch count (map text_of w.names.items)
        (map text_of w₁.names.items) w.indexes.items w₁.indexes.items w.left w₁.left next.so before
        (rw (ep, x, y) at none)

    pub node_too_large : (o : Others) (valid : Bool) (branch : Option Bool) (count : ℕ)
        (w w₁ : WalkState M H K) (c d : C)
        → KeywordsLoop S n above place v quiet takes [] valid branch count (map text_of w.names.items)
        (map text_of w₁.names.items) w.indexes.items w₁.indexes.items w.left w₁.left w.keyword w.instance c d
        → AreJudgedIf S place quiet v count o → w₁.left < o.count → HasNone S (suc n) above place v w.left
    node_too_large o valid branch count w w₁ c d loop judged few =
        let last = at_end S n above place v quiet takes valid branch count (map text_of w.names.items) (map text_of
        w₁.names.items) w.indexes.items w₁.indexes.items w.left w₁.left w.keyword w.instance c d loop in
        ended_too_large S n above place v quiet quiet refl o branch count valid (map text_of w.names.items)
        (map text_of w₁.names.items) w.indexes.items w₁.indexes.items w.left w₁.left last.so judged few

    pub node_end : IsAscending (entries (S.schema place)) → (quiet ≡ true → (c d : C) (e : Event) → takes c e d)
        → (o : Others) (valid valid' : Bool) (branch : Option Bool) (count : ℕ) (w w₁ w₂ w₃ : WalkState M H K)
        (start : Start) (p r : ℕ) (c d e : C)
        → StartOf w start → w₁.path ≡ w.path ++ p ∷ [] → HasGrown w.scope r w₁.scope → w₁.keyword ≡ w.keyword
        → w₁.instance ≡ w.instance → w₁.left < w.left
        → KeywordsLoop S n above place v quiet takes [] valid branch count (map text_of w.names.items)
        (map text_of w₁.names.items) w.indexes.items w₁.indexes.items w.left w₁.left w.keyword w.instance c d
        → AreJudgedIf S place quiet v count o → valid' ≡ (valid && o.pass)
        → w₂.path ≡ w₁.path → w₂.scope ≡ w₁.scope → w₂.keyword ≡ w₁.keyword → w₂.instance ≡ w₁.instance
        → w₂.names.items ≡ w₁.names.items → w₂.indexes.items ≡ w₁.indexes.items → w₂.left + o.count ≡ w₁.left
        → SchemaClosed S text_of takes place start valid' w₂ w₃ d e
        → NodeDone S text_of takes (suc n) above place v valid' w w₃ c e
    unfolding schema_says
    node_end ascending any o valid valid' branch count w w₁ w₂ w₃ start p r c d e m ep es ek ei fl loop judged f sp
        ss sk si sn sx sl close =
        let last = at_end S n above place v quiet takes valid branch count (map text_of w.names.items) (map text_of
        w₁.names.items) w.indexes.items w₁.indexes.items w.left w₁.left w.keyword w.instance c d loop in
        let all = rw (sym f) at (ended S n above place v quiet quiet refl ascending o branch count valid
        (map text_of w.names.items) (map text_of w₁.names.items) w.indexes.items w₁.indexes.items w.left w₁.left
        w₂.left last.so judged sl) in
        let names' = rw sn at close.names in
        let indexes' = rw sx at close.indexes in
        let cut : map text_of w₃.names.items ≡ cond valid' (map text_of w₁.names.items)
        (take (length (map text_of w.names.items)) (map text_of w₁.names.items)) =
        map_cut text_of valid' start.names w₁.names.items w₃.names.items names' ∙ ap (λ i. cond valid' (map text_of
        w₁.names.items) (take i (map text_of w₁.names.items))) (m.names ∙ sym (length-map w.names.items text_of)) in
        let cut' = rw m.indexes at indexes' in
        let walked = node_walked S n above place v valid' (map text_of w.names.items) (map text_of w₁.names.items) (map
        text_of w₃.names.items) w.indexes.items w₁.indexes.items w₃.indexes.items w.left w₂.left all cut cut' in
        record {
          walked = subst (λ l. NodeWalked S (suc n) above place v valid' (map text_of w.names.items)
              (map text_of w₃.names.items) w.indexes.items w₃.indexes.items w.left l) (sym close.left) walked;
          reported = λ at h. ended_reported S n above place v quiet takes quiet refl any at valid' _ c d e all.settled
              walked.settled (λ q. last.reported q at h) walked.verdict refl close.reported;
          back = record {
            path = close.path w.path p (sp ∙ ep);
            scope = close.scope ∙ (ap (take start.scope) ss ∙ (ap (λ i. take i w₁.scope) m.scope ∙ es.kept));
            keyword = close.keyword ∙ (sk ∙ ek);
            instance = close.instance ∙ (si ∙ ei);
          };
          falls = let l = close.left in omega (arith, l, fl, sl);
        }
