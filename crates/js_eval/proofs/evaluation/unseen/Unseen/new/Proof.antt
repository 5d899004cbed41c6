use Rattle.js_eval.proofs.UnseenWalks.{refl, [], ◌∷◌, vstruct, vnil, emp, via, fst∗, tables, ‵, raw, ◌$◌, ◌∵◌, ! }
use Rattle.js_eval.proofs.UnseenWalks.{qed, move, suffices, done, no_more, returns, enter, agg, alloc_all}
use Rattle.js_eval.proofs.UnseenWalks.{pass_all, free_all, look_at, sets, owns, pure_i, types_at, alive, says}
use Rattle.js_eval.proofs.UnseenWalks.{Stays, walk_of, ends_at, proved}
use Rattle.js_eval.specs.contracts.evaluation.unseen.Unseen as unseen
use Rattle.js_eval.specs.contracts.evaluation.unseen.Unseen.new as f
use Rattle.js_eval.proofs.evaluation.unseen.Unseen.new.Code as code
use Rattle.js_eval.proofs.evaluation.unseen.Unseen.new.Statement.{statement}

abbrev stayed : Stays f.ended.signature.params f.ended.kept
stayed = tt

pub new_spec : {M : Type 1} → statement M
new_spec 𝓤 𝓛 𝓜 𝓡 wired =
    let c = f.clauses 𝓛 𝓜.mem 𝓡.returns in let 𝓣 = tables 𝓤 𝓛.H 𝓜 𝓡 𝓡.env in
    proved 𝓛 f.ended stayed c 𝓜 𝓡 tt f.Key.name code.function (code.unfolded 𝓤 𝓛.H 𝓜 𝓡 wired)
    (λ κs. tt) (λ κs. tt) (λ κs qs bounds a g are.
    let y : (walk_of 𝓛 f.ended stayed c).Ghost = ((κs, qs, bounds, a, tt), g) in
    via 𝓤 _ (fst∗ 𝓤 _ (emp 𝓤))
    (qed 𝓛 (raw (alive 𝓛 f.signature κs qs) ∷ ‵ (owns (types_at f.signature.params κs) a y.0.4) ∷ []) ∵
    enter ! 𝓣.C 𝓣.Λ code.function [] _ $ alloc_all ! (λ l. pass_all ! refl tt $
    sets ! (agg ! (no_more !)) refl (tt, tt) $ returns ! (look_at ! 0 refl) $ free_all ! refl $
    suffices ! _ (ends_at 𝓛 f.ended stayed c y (vstruct vnil) (record { items = [] }) tt tt) $ says ! refl $
    pure_i ! (unseen.the_row.own_val (record { items = [] }) (vstruct vnil ∷ [])) ((λ vss. (tt, tt)), tt)
    ((tt, (refl, tt)), tt) $ move ! (1 ∷ 2 ∷ 0 ∷ []) $ done !)))
