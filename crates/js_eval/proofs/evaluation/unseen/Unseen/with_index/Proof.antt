use Rattle.std.specs.Prelude.{◌++◌, decimal}
use Rattle.js_doc.specs.Pointer.{escape}
use mir.Syntax.{w64}
use mir.Val.{vint, Fits}
use denote.Plain.{uint_vals, uint_Tells}
use denote.Builtin.{usize}
use Rattle.js_eval.proofs.UnseenWalks.{refl, [], ◌∷◌, vstruct, vnil, emp, via, fst∗, tables, ‵, raw, ◌$◌, ◌∵◌, !, qed}
use Rattle.js_eval.proofs.UnseenWalks.{move, suffices, done, no_more, returns, enter, agg, alloc_all, pass_all}
use Rattle.js_eval.proofs.UnseenWalks.{free_all, look_at, sets, owns, pure_i, types_at, alive, says, Stays, walk_of}
use Rattle.js_eval.proofs.UnseenWalks.{ends_at, proved, named, vptr, yes, shr_vals, shr_Tells, plain, stay_none_ref}
use Rattle.js_eval.proofs.UnseenWalks.{Goes-none_ref, stay_none, Goes-none}
use Rattle.js_eval.specs.contracts.evaluation.unseen.Unseen as unseen
use Rattle.js_eval.specs.contracts.evaluation.unseen.Unseen.with_index as f
use Rattle.js_eval.proofs.evaluation.unseen.Unseen.with_index.Code as code
use Rattle.js_eval.proofs.evaluation.unseen.Unseen.with_index.Statement.{statement}

abbrev stayed : Stays f.ended.signature.params f.ended.kept
stayed = (stay_none_ref (0 ∷ []) tt (plain (λ _. unseen.the_row)) yes, (stay_none (λ _. usize) yes, tt))

pub with_index_spec : {M : Type 1} → statement M
with_index_spec 𝓤 𝓛 𝓜 𝓡 wired =
    let c = f.clauses 𝓛 𝓜.mem 𝓡.returns in let 𝓣 = tables 𝓤 𝓛.H 𝓜 𝓡 𝓡.env in
    proved 𝓛 f.ended stayed c 𝓜 𝓡 (
      Goes-none_ref 𝓛 1 (0 ∷ []) tt (plain (λ _. unseen.the_row)) yes,
      (Goes-none 𝓛 1 (λ _. usize) yes (λ κs x f. refl), tt),
    ) f.Key.name code.function (code.unfolded 𝓤 𝓛.H 𝓜 𝓡 wired)
    (λ κs. (shr_vals, (uint_vals w64, tt))) (λ κs. (shr_Tells (named 0) κs.0 unseen.the_row, (uint_Tells w64, tt)))
    (λ κs qs bounds a g are.
    let fits : Fits w64 a.1.0 = record { fits = are.1.0.1 } in
    let y : (walk_of 𝓛 f.ended stayed c).Ghost =
    ((κs, qs, bounds, a, (vptr a.0.ref_ptr.0 a.0.ref_ptr.1 ∷ [], (vint w64 a.1.0 ∷ [], tt))), g) in
    via 𝓤 _ (fst∗ 𝓤 _ (emp 𝓤))
    (qed 𝓛 (raw (alive 𝓛 f.signature κs qs) ∷ ‵ (owns (types_at f.signature.params κs) a y.0.4) ∷ []) ∵
    enter ! 𝓣.C 𝓣.Λ code.function (vptr a.0.ref_ptr.0 a.0.ref_ptr.1 ∷ vint w64 a.1.0 ∷ []) _ $ alloc_all !
    (λ l. pass_all ! refl ((tt, tt), ((tt, fits), tt)) $
    sets ! (agg ! (no_more !)) refl (tt, tt) $ returns ! (look_at ! 0 refl) $ free_all ! refl $
    suffices ! _ (ends_at 𝓛 f.ended stayed c y (vstruct vnil)
    (record { items = a.0.now.items ++ 47 ∷ escape (decimal a.1.0) }) (tt, (tt, tt)) (tt, (tt, tt))) $ says ! refl $
    pure_i ! (unseen.the_row.own_val (record { items = a.0.now.items ++ 47 ∷ escape (decimal a.1.0) })
    (vstruct vnil ∷ [])) ((λ vss. (tt, tt)), tt) ((tt, (refl, tt)), tt) $ move ! (1 ∷ 2 ∷ 0 ∷ []) $ done !)))
