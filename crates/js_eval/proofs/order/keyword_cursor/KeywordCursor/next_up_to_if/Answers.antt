use Rattle.std.proofs.Common.{◌≡◌, ◌∷◌, [], MatchOption, cond, sym, ◌∙◌, ap, subst}
use Rattle.js_eval.specs.Seen.{keyword_of}
use Rattle.js_eval.specs.code.KeywordsLeft.{after_if, keywords_left, members_left, up_to_if}
use Rattle.js_eval.proofs.order.keyword_cursor.KeywordCursor.next_up_to_if.Goals as goal

pub returns : goal.returns
returns c =
    let none = c.in_default.ensures in
    let deferred = c.loop-turn.self.deferred in
    let e : up_to_if c.args.self.now.deferred (members_left c.args.self.now.left)
    ≡ after_if deferred (members_left c.next_in_turn.new.self) =
    sym c.loop-turn.invariant.same ∙ (ap (up_to_if deferred) none.0 ∙ sym (ap (after_if deferred) none.1)) in
    let before : keywords_left c.args.self.now ≡ up_to_if c.args.self.now.deferred (members_left c.args.self.now.left) =
    ap (λ b. cond b (after_if c.args.self.now.deferred (members_left c.args.self.now.left))
    (up_to_if c.args.self.now.deferred (members_left c.args.self.now.left))) c.requires in
    subst (λ a. MatchOption c.next_after_if.result (a ≡ [])
    (λ k. a ≡ keyword_of k ∷ keywords_left c.next_after_if.new.self)) (sym (before ∙ e)) c.next_after_if.ensures
