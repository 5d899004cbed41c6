-- What computes URLs that are written out, for the crates above.
unfoldable pub use Rattle.url.proofs.OnLiterals.{url_on_literals}
