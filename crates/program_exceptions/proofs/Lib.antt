mod SplitWords
