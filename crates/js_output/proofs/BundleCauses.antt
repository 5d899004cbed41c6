-- What js_bundle promises of documents that are passed in, and of an entry, as causes.
use Rattle.std.proofs.Common.{◌≡◌, ℕ, ◌<◌, ◌≤◌, List, [], ◌∷◌, ◌++◌, length, map, Some, None, is_none, option_and_then}
use Rattle.std.proofs.Common.{option_to_list, Ok, Err, true, false, not, if◌then◌else◌, inl, inr, refl, sym, ap, ◌∙◌}
use Rattle.std.proofs.Common.{subst, arith, ◌+◌, get_or, drop, Bor, append_assoc, length-append}
use Rattle.std.proofs.lemmas.Bool.{lt-ltb, le-ltb, lt-leb, le-leb}
use Rattle.std.proofs.lemmas.List.{append-nil, drop_more}
use Rattle.std.proofs.lemmas.List.{drop_all}
use Rattle.url.specs.Parts.{Parts}
use Rattle.url.specs.Parser.{Parsed, parse_url}
use Rattle.js_doc.specs.Pointer.{Tokens}
use Rattle.js_doc.specs.Value.{Value}
use Rattle.js_doc.specs.declared.reading.ReadFault.TheVariants as read
use Rattle.js_bundle.specs.declared.refusal.Refusal.{Refusal}
use Rattle.js_bundle.specs.declared.refusal.RefusalKind.{RefusalKind}
use Rattle.js_bundle.specs.declared.refusal.RefusalKind.TheVariants as kind
use Rattle.js_bundle.specs.declared.refusal.EntryFault.{EntryFault}
use Rattle.js_bundle.specs.declared.refusal.EntryFault.TheVariants as entry_fault
use Rattle.js_bundle.specs.Adding.{most_documents, IsUriOf, IsBad, IsTaken, IsAdded, IsKind}
use Rattle.js_bundle.specs.Adding.{IsRefusedBy, IsAddedAs, IsUriKind, IsUriRefusedBy}
use Rattle.js_bundle.specs.Candidate.{Candidate}
use Rattle.js_bundle.specs.Candidate as candidate
use Rattle.js_bundle.specs.Document.{Document}
use Rattle.js_bundle.specs.Document as bundle
use Rattle.js_bundle.specs.Refusals.{candidates, IsRefusalOf}
use Rattle.js_bundle.specs.Schemas.{IsEntryFault, IsBadEntry, IsReadEntry}
use Rattle.js_bundle.specs.Url.{is_empty, longest_uri, without_fragment, raw_fragment, parsed}
use Rattle.js_output.specs.Cause.{Causes, cause, MayGoOn, IsFirstFault, FailsBy, DecidedBy}
use Rattle.js_output.specs.Documents.{DocumentTexts, documents_of, unfragmented, absolute_uri, document_under}
use Rattle.js_output.specs.Documents.{taken, bundle_of, refused, text_causes, uri_causes, document_causes}
use Rattle.js_output.specs.Documents.{adding_causes, cause_of, bundle_causes, fault_by}
use Rattle.js_output.specs.Entry.{is_uri_read, entry_causes, entry_fault_of}
use Rattle.js_output.specs.Reading.{reading, reading-ok, reading-err}
use Rattle.js_output.specs.declared.fault.Fault.{Fault}
use Rattle.js_output.specs.declared.fault.Fault.TheVariants as fault
use Rattle.js_output.proofs.CauseLists.{clear-append, first-append, first-later, decided_itself, decided_past}
use Rattle.js_output.proofs.CauseLists.{decided_stop, clear_past, first_here, first_past}

-- ---- a document's URI

empty_is : (t : List ℕ) → t ≡ [] → is_empty t ≡ true
empty_is t e = ap is_empty e

not_empty_is : (t : List ℕ) → ¬ (t ≡ []) → is_empty t ≡ false
not_empty_is [] h = absurd (h refl)
not_empty_is (b ∷ bs) h = refl

uri_is : (t : List ℕ) (uri : Parts) → IsUriOf t uri → absolute_uri t ≡ Some uri
uri_is t uri (given, parses, empty, is) =
    ap (λ p. option_and_then unfragmented (parsed p)) parses
    ∙ ap (λ b. if b then Some (without_fragment given) else None)
    (empty_is (raw_fragment given) empty) ∙ ap Some (sym is)

bad_is : (p : Parsed Parts) → IsBad p → is_none (option_and_then unfragmented (parsed p)) ≡ true
bad_is (Ok uri) h = ap (λ b. is_none (if b then Some (without_fragment uri) else None))
    (not_empty_is (raw_fragment uri) h)
bad_is (Err e) h = refl

-- it is taken beside `earlier` others
pub uri_clear : (earlier : ℕ) (uri : List ℕ) (under : Parts) → earlier < most_documents → length uri ≤ longest_uri
    → IsUriOf uri under → MayGoOn (uri_causes earlier uri)
uri_clear earlier uri under room short is =
    clear_past _ (refused earlier kind.TooManyDocuments) _ (lt-leb most_documents earlier room)
    (clear_past _ (refused earlier kind.UriTooLong) _ (le-ltb longest_uri (length uri) short)
    (subst (λ b. MayGoOn (cause b (refused earlier kind.BadUri))) (sym (ap is_none (uri_is uri under is))) tt))

-- it isn't
pub uri_refused : (earlier : ℕ) (uri : List ℕ) (place : Tokens) (k : RefusalKind) → IsUriKind earlier uri place k
    → FailsBy (uri_causes earlier uri) (fault_by k (record { document = earlier; place = place; kind = k }))
uri_refused earlier uri place kind.Memory h = tt
uri_refused earlier uri place kind.TooManyDocuments (root, full) =
    subst (λ p. FailsBy (uri_causes earlier uri)
    (fault.Refused (record { document = earlier; place = p; kind = kind.TooManyDocuments }))) (sym root)
    (first_here _ (refused earlier kind.TooManyDocuments) _ (le-leb most_documents earlier full))
uri_refused earlier uri place kind.UriTooLong (root, room, long) =
    subst (λ p. FailsBy (uri_causes earlier uri)
    (fault.Refused (record { document = earlier; place = p; kind = kind.UriTooLong }))) (sym root)
    (first_past _ (refused earlier kind.TooManyDocuments) _ (refused earlier kind.UriTooLong)
    (lt-leb most_documents earlier room)
    (first_here _ (refused earlier kind.UriTooLong) _ (lt-ltb longest_uri (length uri) long)))
uri_refused earlier uri place kind.BadUri (root, room, short, bad) =
    subst (λ p. FailsBy (uri_causes earlier uri)
    (fault.Refused (record { document = earlier; place = p; kind = kind.BadUri }))) (sym root)
    (first_past _ (refused earlier kind.TooManyDocuments) _ (refused earlier kind.BadUri)
    (lt-leb most_documents earlier room)
    (first_past _ (refused earlier kind.UriTooLong) _ (refused earlier kind.BadUri)
    (le-ltb longest_uri (length uri) short)
    (subst (λ b. IsFirstFault (cause b (refused earlier kind.BadUri)) (refused earlier kind.BadUri))
    (sym (bad_is (parse_url None uri) bad)) (inl refl))))
uri_refused earlier uri place _ h = absurd h

-- ---- a document is added

pub taken_clear : (earlier : ℕ) (uri bytes : List ℕ) (d : Document) → IsTaken earlier uri bytes d
    → MayGoOn (document_causes earlier (uri, bytes))
taken_clear earlier uri bytes d t =
    clear-append (uri_causes earlier uri) (text_causes earlier (reading bytes))
    (uri_clear earlier uri d.uri t.room t.short t.under)
    (subst (λ r. MayGoOn (text_causes earlier r)) (sym (reading-ok bytes d.root t.read)) tt)

pub taken_is : (earlier : ℕ) (uri bytes : List ℕ) (d : Document) → IsTaken earlier uri bytes d
    → taken (uri, bytes) ≡ Some d
taken_is earlier uri bytes d t = ap (λ u. document_under u (reading bytes)) (uri_is uri d.uri t.under)
    ∙ ap (document_under (Some d.uri)) (reading-ok bytes d.root t.read)

-- ---- a document is refused

refused_by : (earlier : ℕ) (uri bytes : List ℕ) (place : Tokens) (k : RefusalKind) → IsKind earlier uri bytes place k
    → FailsBy (document_causes earlier (uri, bytes))
    (fault_by k (record { document = earlier; place = place; kind = k }))
refused_by earlier uri bytes place kind.Memory h = tt
refused_by earlier uri bytes place kind.TooManyDocuments h =
    first-append (uri_causes earlier uri) (text_causes earlier (reading bytes)) _
    (uri_refused earlier uri place kind.TooManyDocuments h)
refused_by earlier uri bytes place kind.UriTooLong h = first-append (uri_causes earlier uri)
    (text_causes earlier (reading bytes)) _ (uri_refused earlier uri place kind.UriTooLong h)
refused_by earlier uri bytes place kind.BadUri h =
    first-append (uri_causes earlier uri) (text_causes earlier (reading bytes)) _
    (uri_refused earlier uri place kind.BadUri h)
refused_by earlier uri bytes place kind.NotJson (root, room, short, (u, under), f) =
    subst (λ p. FailsBy (document_causes earlier (uri, bytes))
    (fault.Refused (record { document = earlier; place = p; kind = kind.NotJson }))) (sym root)
    (first-later (uri_causes earlier uri) (text_causes earlier (reading bytes)) (refused earlier kind.NotJson)
    (uri_clear earlier uri u room short under)
    (subst (λ r. IsFirstFault (text_causes earlier r) (refused earlier kind.NotJson))
    (sym (reading-err bytes read.NotJson f)) (inl refl)))
refused_by earlier uri bytes place kind.NotWhole (room, short, (u, under), f) =
    let is : Fault = fault.Refused (record { document = earlier; place = place; kind = kind.NotWhole }) in
    first-later (uri_causes earlier uri) (text_causes earlier (reading bytes)) is
    (uri_clear earlier uri u room short under)
    (subst (λ r. IsFirstFault (text_causes earlier r) is) (sym (reading-err bytes (read.NotWhole place) f)) (inl refl))
refused_by earlier uri bytes place _ h = absurd h

pub add_fails : (earlier : ℕ) (uri bytes : List ℕ) (r : Refusal) → IsRefusedBy earlier uri bytes r
    → FailsBy (document_causes earlier (uri, bytes)) (fault_by r.kind r)
add_fails earlier uri bytes r (number, is) =
    subst (λ n. FailsBy (document_causes earlier (uri, bytes))
    (fault_by r.kind (record { document = n; place = r.place; kind = r.kind }))) (sym number)
    (refused_by earlier uri bytes r.place r.kind is)

-- ---- a value is added

pub added_as : (old : bundle.Documents) (uri : List ℕ) (root : Value) (new : bundle.Documents)
    → IsAddedAs old uri root new
    → MayGoOn (uri_causes (length old) uri)
    × (new ≡ old ++ option_to_list (document_under (absolute_uri uri) (Ok root)))
added_as old uri root new (under, u, is) = (
  uri_clear (length old) uri under u.room u.short u.is,
  is
      ∙ ap (λ p. old ++ option_to_list (document_under p (Ok root))) (sym (uri_is uri under u.is)),
)

pub add_doc_fails : (earlier : ℕ) (uri : List ℕ) (r : Refusal) → IsUriRefusedBy earlier uri r
    → FailsBy (uri_causes earlier uri) (fault_by r.kind r)
add_doc_fails earlier uri r (number, is) =
    subst (λ n. FailsBy (uri_causes earlier uri) (fault_by r.kind (record
    { document = n; place = r.place; kind = r.kind }))) (sym number) (uri_refused earlier uri r.place r.kind is)

-- ---- documents one after another

abbrev Lent : Type 0
Lent = List (Bor (List ℕ) × Bor (List ℕ))

pub taken_more : (old new : bundle.Documents) (uri bytes : List ℕ) (more : DocumentTexts) (all : bundle.Documents)
    → IsAdded old uri bytes new
    → old ++ bundle_of ((uri, bytes) ∷ more) ≡ all → new ++ bundle_of more ≡ all
taken_more old new uri bytes more all (d, t, is) e =
    ap (λ ds. ds ++ bundle_of more) is ∙ append_assoc old (d ∷ []) (bundle_of more)
    ∙ ap (λ o. old ++ (option_to_list o ++ bundle_of more)) (sym (taken_is (length old) uri bytes d t)) ∙ e

pub held_more : (old new : bundle.Documents) (uri bytes : List ℕ) (n : ℕ) → IsAdded old uri bytes new
    → length old ≡ n → length new ≡ n + 1
held_more old new uri bytes n (d, t, is) e = omega (arith, e, ap length is, length-append old (d ∷ []))

pub added_clear : (old new : bundle.Documents) (uri bytes : List ℕ) (n : ℕ) → IsAdded old uri bytes new → length old ≡ n
    → MayGoOn (document_causes n (uri, bytes))
added_clear old new uri bytes n (d, t, is) e =
    subst (λ m. MayGoOn (document_causes m (uri, bytes))) e (taken_clear (length old) uri bytes d t)

-- what the loop knows after n documents
pub record AreTaken (before : bundle.Documents) (n : ℕ) (docs : Lent) : Type 0 where
  pub many : length before ≡ n
  pub all : before ++ bundle_of (documents_of (drop n docs)) ≡ bundle_of (documents_of docs)
  pub decided : DecidedBy (adding_causes 0 (documents_of docs)) (adding_causes n (documents_of (drop n docs)))

pub none_taken : (docs : Lent) → AreTaken [] 0 docs
none_taken docs = record { many = refl; all = refl; decided = decided_itself (adding_causes 0 (documents_of docs)) }

pub one_taken : (before new : bundle.Documents) (n : ℕ) (docs : Lent) (d : Bor (List ℕ) × Bor (List ℕ))
    → n < length docs → AreTaken before n docs
    → IsAdded before (get_or docs n d).0.now (get_or docs n d).1.now new → AreTaken new (n + 1) docs
one_taken before new n docs d within t added =
    let uri = (get_or docs n d).0.now in
    let bytes = (get_or docs n d).1.now in
    let left = documents_of (drop (n + 1) docs) in
    let whole = adding_causes 0 (documents_of docs) in
    let l = subst (λ ds. DecidedBy whole (adding_causes n (documents_of ds))) (drop_more docs n d within) t.decided in
    let all = subst (λ ds. before ++ bundle_of (documents_of ds) ≡ bundle_of (documents_of docs))
    (drop_more docs n d within) t.all in
    record {
      many = held_more before new uri bytes n added t.many;
      all = taken_more before new uri bytes left (bundle_of (documents_of docs)) added all;
      decided = decided_past whole (document_causes n (uri, bytes)) (adding_causes (n + 1) left) l
          (added_clear before new uri bytes n added t.many);
    }

pub one_refused : (before : bundle.Documents) (n : ℕ) (docs : Lent) (d : Bor (List ℕ) × Bor (List ℕ)) (e : Fault)
    → n < length docs → AreTaken before n docs
    → FailsBy (document_causes (length before) ((get_or docs n d).0.now, (get_or docs n d).1.now)) e
    → FailsBy (adding_causes 0 (documents_of docs)) e
one_refused before n docs d e within t h =
    let at : List ℕ × List ℕ = ((get_or docs n d).0.now, (get_or docs n d).1.now) in
    let whole = adding_causes 0 (documents_of docs) in
    let l = subst (λ ds. DecidedBy whole (adding_causes n (documents_of ds))) (drop_more docs n d within) t.decided in
    decided_stop whole (document_causes n at) (adding_causes (n + 1) (documents_of (drop (n + 1) docs))) e l
    (subst (λ m. FailsBy (document_causes m at) e) t.many h)

pub taken_clear_all : (before : bundle.Documents) (n : ℕ) (docs : Lent) → length docs ≤ n → AreTaken before n docs
    → MayGoOn (adding_causes 0 (documents_of docs))
taken_clear_all before n docs end t =
    let l = subst (λ ds. DecidedBy (adding_causes 0 (documents_of docs)) (adding_causes n (documents_of ds)))
    (drop_all n docs end) t.decided in l.clear tt

pub taken_all : (before : bundle.Documents) (n : ℕ) (docs : Lent) → length docs ≤ n → AreTaken before n docs
    → before ≡ bundle_of (documents_of docs)
taken_all before n docs end t =
    sym (append-nil before) ∙ subst (λ ds. before ++ bundle_of (documents_of ds) ≡ bundle_of (documents_of docs))
    (drop_all n docs end) t.all

-- ---- all of them

clear_of : (cs : List Candidate) → candidate.IsClear cs → MayGoOn (map cause_of cs)
clear_of [] h = tt
clear_of (c ∷ cs) h = (ap not h.0.0, clear_of cs h.1)

first_of : (cs : List Candidate) (r : Refusal) → candidate.IsFirst cs r
    → IsFirstFault (map cause_of cs) (fault.Refused r)
first_of [] r h = absurd h
first_of (c ∷ cs) r (inl e) = inl (ap fault.Refused (sym e))
first_of (c ∷ cs) r (inr h) = inr (ap not h.0, first_of cs r h.1)

pub finish_clear : (docs : bundle.Documents) → candidate.IsClear (candidates docs) → MayGoOn (bundle_causes docs)
unfolding bundle_causes
finish_clear docs h = clear_of (candidates docs) h

fails_first : (causes : Causes) (k : RefusalKind) (r : Refusal) → IsFirstFault causes (fault.Refused r)
    → FailsBy causes (fault_by k r)
fails_first causes kind.Memory r h = tt
fails_first causes _ r h = h

pub finish_fails : (docs : bundle.Documents) (r : Refusal) → IsRefusalOf docs r
    → FailsBy (bundle_causes docs) (fault_by r.kind r)
unfolding bundle_causes
finish_fails docs r (inl e) = subst (λ s. FailsBy (map cause_of (candidates docs)) (fault_by s.kind s)) (sym e) tt
finish_fails docs r (inr h) = fails_first (map cause_of (candidates docs)) r.kind r (first_of (candidates docs) r h)

-- ---- the entry

bad_entry : (p : Parsed Parts) → IsBadEntry p → is_uri_read p ≡ false
bad_entry (Ok uri) h = h
bad_entry (Err e) h = refl

read_entry : (p : Parsed Parts) → IsReadEntry p → is_uri_read p ≡ true
read_entry (Ok uri) h = h
read_entry (Err e) h = absurd h

not_long : (uri : List ℕ) → ¬ (longest_uri < length uri) → length uri ≤ longest_uri
not_long uri h = omega (arith, h)

pub entry_fails : (docs : bundle.Documents) (uri : List ℕ) (e : EntryFault) → IsEntryFault docs uri e
    → FailsBy (entry_causes docs uri) (entry_fault_of e)
entry_fails docs uri entry_fault.Memory h = tt
entry_fails docs uri entry_fault.UriTooLong h =
    first_here _ (fault.Entry entry_fault.UriTooLong) _ (lt-ltb longest_uri (length uri) h)
entry_fails docs uri entry_fault.BadUri (short, bad) =
    first_past _ (fault.Entry entry_fault.UriTooLong) _ (fault.Entry entry_fault.BadUri)
    (le-ltb longest_uri (length uri) (not_long uri short))
    (first_here _ (fault.Entry entry_fault.BadUri) _ (ap not (bad_entry (parse_url None uri) bad)))
entry_fails docs uri entry_fault.Unresolved (short, (good, none)) =
    first_past _ (fault.Entry entry_fault.UriTooLong) _ (fault.Entry entry_fault.Unresolved)
    (le-ltb longest_uri (length uri) (not_long uri short))
    (first_past _ (fault.Entry entry_fault.BadUri) _ (fault.Entry entry_fault.Unresolved)
    (ap not (read_entry (parse_url None uri) good))
    (subst (λ o. IsFirstFault (cause (is_none o) (fault.Entry entry_fault.Unresolved))
    (fault.Entry entry_fault.Unresolved)) (sym none) (inl refl)))
