use Rattle.std.proofs.Common.{◌≡◌, ◌∙◌, None, Some, ap, bytes_eq, cond, string_bytes, string_cmp, subst, rules}
use Rattle.std.specs.BTreeMap.{ContainsKey, get, get_by_text, get_key}
use Rattle.std.specs.BTreeMap.Entry.{MatchEntry, entry_key, map_with_value}
use Rattle.std.proofs.lemmas.Map.Text.{btree_map_updates_text}
use Rattle.js_bundle.proofs.Indexing.IndexFinds.{new_put}
use Rattle.js_bundle.proofs.index.numbering.Numbering.insert_first.Goals as goal

pub returns-in-Vacant : goal.returns-in-Vacant
returns-in-Vacant c =
    let old = c.args.self.now.first in
    let text = c.args.text in
    let bytes = string_bytes text in
    let value = c.insert.result.now in
    let absent : get string_cmp old text ≡ None =
    subst (λ e. MatchEntry e (ContainsKey string_cmp old text × (get_key string_cmp old text ≡ Some (entry_key e)))
    (get string_cmp old text ≡ None)) c.in-Vacant.is c.in_ok-self.ensures.found in
    new_put c.args.self.now _ text c.args.number absent
    (λ key. (search rules) ∙ btree_map_updates_text bytes old (map_with_value c.in_ok-self.field-0 value) (Some value)
    (c.in_ok-self.ensures.update.0 value) key
    ∙ ap (λ v. cond (bytes_eq bytes key) (Some v) (get_by_text old key)) c.insert.ensures.value)
