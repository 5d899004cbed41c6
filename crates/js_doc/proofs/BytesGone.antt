-- Pieces that went out one after the other.
use Rattle.std.proofs.Common.{◌≡◌, ℕ, ◌+◌, ◌≤◌, List, [], ◌++◌, length, true, Result, Ok, Err, refl}
use Rattle.std.proofs.Common.{sym, ap, ◌∙◌, subst, append_assoc, append-nil, arith}
use Rattle.std.proofs.lemmas.List.{length-append}
use Rattle.std.proofs.KnownBytes.{Appends-nil, Appends-trans}
use Rattle.std.specs.Result.{IsErr}
use Rattle.js_doc.specs.BytesOut.{Progress, CallsOnce, Goes, Stops, Puts}

-- with how much of all is written, and what is left to write
pub record Wrote (old : Progress) (new : Progress) (left : List ℕ) (all : List ℕ) : Type 0 where
  pub written : List ℕ
  pub goes : Goes old new written
  pub is : written ++ left ≡ all

calls_once : (a b c : Progress) (xs ys zs : List ℕ) → CallsOnce a b xs → CallsOnce b c ys
    → length xs + length ys ≤ length zs → CallsOnce a c zs
calls_once a b c xs ys zs g h le = (omega (arith, g.0, h.0), omega (arith, g.1, h.1, le))

goes-then : (a b c : Progress) (xs ys : List ℕ) → Goes a b xs → Goes b c ys → Goes a c (xs ++ ys)
goes-then a b c xs ys g h = (
  Appends-trans a.gone b.gone c.gone xs ys g.0 h.0,
  calls_once a b c xs ys (xs ++ ys) g.1 h.1 (omega (arith, length-append xs ys)),
  h.2 ∙ g.2,
)

-- nothing is written yet
pub starts : (a : Progress) (all : List ℕ) → Wrote a a all all
starts a all = record { written = []; goes = (Appends-nil a.gone, (omega arith, omega arith), refl); is = refl }

-- one piece more
pub goes_on : (a b c : Progress) (piece left all : List ℕ) → Wrote a b (piece ++ left) all
    → Goes b c piece → Wrote a c left all
goes_on a b c piece left all w h =
    record {
      written = w.written ++ piece;
      goes = goes-then a b c w.written piece w.goes h;
      is = append_assoc w.written piece left ∙ w.is;
    }

-- the last piece
pub ends : (a b c : Progress) (piece all : List ℕ) → Wrote a b piece all → Goes b c piece → Goes a c all
ends a b c piece all w h = subst (Goes a c) w.is (goes-then a b c w.written piece w.goes h)

-- all of them have gone out
pub all_gone : (a b : Progress) (all : List ℕ) → Wrote a b [] all → Goes a b all
all_gone a b all w = subst (Goes a b) (sym (append-nil w.written) ∙ w.is) w.goes

sizes : (xs ys zs all : List ℕ) → xs ++ (ys ++ zs) ≡ all → length xs + length ys ≤ length all
sizes xs ys zs all e = let n = ap length e in omega (arith, n, length-append xs (ys ++ zs), length-append ys zs)

-- it has stopped
pub stops : (a b c : Progress) (piece left all : List ℕ) → Wrote a b (piece ++ left) all
    → Stops b c piece → Stops a c all
stops a b c piece left all w h = (
  w.written ++ h.0,
  h.1 ++ left,
  append_assoc w.written h.0 (h.1 ++ left)
      ∙ ap (λ l. w.written ++ l) (sym (append_assoc h.0 h.1 left) ∙ ap (λ l. l ++ left) h.2) ∙ w.is,
  Appends-trans a.gone b.gone c.gone w.written h.0 w.goes.0 h.3,
  calls_once a b c w.written piece all w.goes.1 h.4 (sizes w.written piece left all w.is),
  h.5,
)

-- none of it has gone out
pub stops_at_once : {T E : Type 0} (a : Progress) (all : List ℕ) (r : Result T E) → IsErr r
    → a.stopped ≡ true → Puts a a all r
stops_at_once a all (Ok x) h s = absurd (cc)
stops_at_once a all (Err e) h s = ([], all, refl, Appends-nil a.gone, (omega arith, omega arith), s)

-- what is left may be written otherwise
pub same_left : (a b : Progress) (left more all : List ℕ) → Wrote a b left all → left ≡ more → Wrote a b more all
same_left a b left more all w e = subst (λ l. Wrote a b l all) e w

pub puts_err : {T E : Type 0} (a b c : Progress) (piece left all : List ℕ) (r : Result T E) → IsErr r
    → Wrote a b (piece ++ left) all → Stops b c piece → Puts a c all r
puts_err a b c piece left all (Ok x) h w part = absurd (cc)
puts_err a b c piece left all (Err e) h w part = stops a b c piece left all w part

-- the first piece stopped
pub stops_first : {T E : Type 0} (a b : Progress) (piece left : List ℕ) (r : Result T E) → IsErr r → Stops a b piece
    → Puts a b (piece ++ left) r
stops_first a b piece left r h part = puts_err a a b piece left (piece ++ left) r h (starts a (piece ++ left)) part

pub puts_last : {T E : Type 0} (a b c : Progress) (piece all : List ℕ) (r : Result T E) → Wrote a b piece all
    → Puts b c piece r → Puts a c all r
puts_last a b c piece all (Ok x) w h = ends a b c piece all w h
puts_last a b c piece all (Err e) w h =
    stops a b c piece [] all (same_left a b piece (piece ++ []) all w (sym (append-nil piece))) h
