use Rattle.std.proofs.Common.{◌≡◌, [], ◌∷◌, ◌++◌, drop, length, string_bytes, ap, ◌∙◌}
use Rattle.js_doc.specs.Fragment.{fragment_text}
use Rattle.js_bundle.specs.code.PlaceNumbers.{tokens_of}
use Rattle.js_bundle.specs.Url.{printed}
use Rattle.js_bundle.proofs.Indexing.TokensWritten.{parts_of}
use Rattle.js_bundle.proofs.index.location.absolute_location.Goals as goal

pub returns : goal.returns
returns c =
    let base = printed c.args.scope.now.base in
    let resource = c.args.scope.now.resource in
    let pointer = c.args.pointer.now in
    let marked : string_bytes c.push_resource_uri.new.text ≡ base ++ 35 ∷ [] = c.in_ok-push_resource_uri.ensures
    ∙ ap (λ t. t ++ (base ++ 35 ∷ [])) c.new-text.ensures.bytes in
    let way : string_bytes c.push_tokens.new.text
    ≡ (base ++ 35 ∷ []) ++ fragment_text (drop (length resource) pointer) =
    c.in_ok-push_tokens.ensures
    ∙ ap (λ b. b ++ fragment_text (drop (length c.tokens-root.result.now) c.tokens.result.now)) marked
    ∙ ap (λ ts. (base ++ 35 ∷ []) ++ fragment_text (drop (length c.tokens-root.result.now) ts)) c.tokens.ensures
    ∙ ap (λ ts. (base ++ 35 ∷ []) ++ fragment_text (drop (length ts) pointer)) c.tokens-root.ensures in
    parts_of base (35 ∷ []) (string_bytes c.push_tokens.new.text) (string_bytes c.push_keyword.new.text)
    (drop (length resource) pointer) (tokens_of c.args.keyword) way c.in_ok-push_keyword.ensures
