-- Any two outcomes of a public function agree.
mod Agree
