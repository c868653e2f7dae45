-- The bytes of a book. Assumes nothing.
use Rattle.std.specs.Prelude.{ℕ, List}
use Rattle.file.specs.Held.{entries_bytes}
use Rattle.book.specs.declared.read.Book.{Book}

abbrev pub book_bytes : Book → List ℕ
book_bytes b = entries_bytes b.entries
