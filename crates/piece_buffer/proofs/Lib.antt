mod CopiedAgain
